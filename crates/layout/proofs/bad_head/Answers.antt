-- The number of the first 4 bytes says what each of them is.
use Rattle.std.proofs.Common.{◌≡◌, sym, arith, lt-ltb, le-ltb, eq-eqb, ne_eqb}
use Rattle.layout.specs.Layout.{byte}
use Rattle.layout.specs.Head.{bad_head, wrong_mark}
use Rattle.layout.proofs.Numbers.{two_bytes, four_bytes}
use Rattle.layout.proofs.Heads.{is_true, first_word, mark_and_1, word_of_good, upper_byte}
use Rattle.layout.proofs.bad_head.Goals as goal

pub returns-then-bytes-lt-HEAD_SIZE : goal.returns-then-bytes-lt-HEAD_SIZE
unfolding bad_head
returns-then-bytes-lt-HEAD_SIZE c = rw (lt-ltb _ _ c.if-bytes-lt-HEAD_SIZE.true)

pub returns-then-unsigned-ne-MARK_AND_1 : goal.returns-then-unsigned-ne-MARK_AND_1
returns-then-unsigned-ne-MARK_AND_1 c =
    let other = c.if-unsigned-ne-MARK_AND_1.true in
    rw (ne_eqb _ _ other)
    (sym (is_true _ (λ e. other (omega (arith, c.unsigned.ensures, four_bytes c.args.bytes.now 0, word_of_good _ e)))))

pub returns-else-unsigned-ne-MARK_AND_1 : goal.returns-else-unsigned-ne-MARK_AND_1
unfolding bad_head wrong_mark
returns-else-unsigned-ne-MARK_AND_1 c =
    let bytes = c.args.bytes.now in
    let small = c.type_inv.bytes in
    let w : first_word bytes ≡ mark_and_1 =
    omega (arith, c.unsigned.ensures, four_bytes bytes 0, c.if-unsigned-ne-MARK_AND_1.false) in
    let v : byte bytes 3 ≡ 1 = omega (arith, w, small 0, small 1, small 2, small 3) in
    let f : byte bytes 2 ≡ 70 = omega (arith, w, v, small 0, small 1, small 2) in
    let r : byte bytes 1 ≡ 82 = omega (arith, w, v, f, small 0, small 1) in
    let t : byte bytes 0 ≡ 84 = omega (arith, w, v, f, r) in
    rw (le-ltb _ _ c.if-bytes-lt-HEAD_SIZE.false, eq-eqb _ _ t, eq-eqb _ _ r, eq-eqb _ _ f, two_bytes bytes 3, v)
    (upper_byte (byte bytes 4))
