-- Each number is where the one before it ends.
use Rattle.std.proofs.Common.{◌≡◌, ◌+◌, ◌++◌, refl, ap, ◌∙◌, arith, w32, to_z-of_z, of_z, to_z, rules}
use Rattle.encoding.specs.File.{in_bytes, in_twos_complement, record_bytes}
use Rattle.encoding.proofs.Pieces.{put_part, put_next}
use Rattle.encoding.proofs.Words.{word_bytes, slope_bits}
use Rattle.encoding.proofs.put_point.Goals as goal

pub returns : goal.returns
unfolding in_bytes record_bytes
returns c =
    let p = c.args.p in
    let at = c.args.at in
    let found = c.args.out.now in
    let a = in_bytes 4 p.area in
    let b = in_bytes 4 p.value in
    let s = in_bytes 4 (in_twos_complement p.slope) in
    let read : to_z w32 (of_z w32 p.slope) ≡ p.slope = to_z-of_z {w = w32} (search rules) in
    let bits = ap (of_z w32) read ∙ slope_bits p.slope in
    let area : c.copy_from_slice.new.self ≡ a =
    c.copy_from_slice.ensures.after ∙ rw c.to_le_bytes-area.ensures (word_bytes p.area) in
    let value : c.copy_from_slice-2.new.self ≡ b =
    c.copy_from_slice-2.ensures.after ∙ rw c.to_le_bytes-value.ensures (word_bytes p.value) in
    let slope : c.copy_from_slice-3.new.self ≡ s =
    c.copy_from_slice-3.ensures.after ∙ rw c.to_le_bytes-slope.ensures (word_bytes _ ∙ ap (in_bytes 4) (omega (arith, bits))) in
    let one = put_part at (at + 4) a found area refl in
    let two = put_next at (at + 4) a b found (omega arith) one refl (put_part (at + 4) (at + 8) b _ value (omega arith)) in
    put_next at (at + 8) (a ++ b) s found (omega arith) two refl (put_part (at + 8) (at + 12) s _ slope (omega arith))
