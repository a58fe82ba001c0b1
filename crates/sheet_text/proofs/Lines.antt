-- The lines of a sheet, from its first area to its last.
--   first_to_last, last_limit    the first area of an accepted curve is not above the last, and that is at most 20,000
--   inside                       from the first area to the last none is outside
--   lines_left, so_many          the lines from an area on, and how many
--   lines_are                    those from the first area on are the sheet's
--   one_more, all_lines          a text and the lines that are left: a line more; no line is left
-- Assumes nothing.
use Rattle.std.proofs.Common.{◌≡◌, ℕ, suc, ◌+◌, ◌-◌, ◌/◌, ◌≤◌, ◌<◌, ℤ, w32, to_z, of_z, to_z-of_z, arith}
use Rattle.std.proofs.Common.{true, false, List, [], ◌∷◌, ◌++◌, length, append_assoc, append-nil}
use lib.Signed.{mag}
use borrow.Author.Tests.{le-ltb}
use Rattle.model.specs.Points.{area_most, Point, Rule}
use Rattle.model.specs.Read as R
use Rattle.model.specs.Read.{outside}
use Rattle.model.specs.Inner.{point_at, Good}
use Rattle.model.proofs.Walk.{chain_ordered, good_ordered}
use Rattle.model.proofs.Indexed.{last_area_at, Chained, chained}
use Rattle.model.proofs.Accepted.{chained_of, limits_of}
use Rattle.rows.specs.Inner.{accepts}
use Rattle.rows.proofs.Passing.{accepted}
use Rattle.lookup.proofs.Areas.{area_at, least, outside_is}
use Rattle.sheet_text.specs.SheetText.{step, entry_line, entry_lines, sheet_lines}

abbrev pub first : List Point → ℕ
first ps = (point_at ps 0).area

abbrev pub last : List Point → ℕ
last ps = (point_at ps (length ps - 1)).area

chain_ends : {rule : Rule} {ps : List Point} → Chained (Good rule) ps → first ps ≤ last ps
chain_ends (chained {p = p} {q = q} {ps = ps} c) =
    let e : length (p ∷ q ∷ ps) - 1 ≡ length (q ∷ ps) = omega arith in
    rw (last, e) (rw (last_area_at p (q ∷ ps), area_at (p ∷ q ∷ ps) (length (q ∷ ps))) at (chain_ordered _ good_ordered c))

abbrev pub so_many : ℕ → ℕ → ℕ
so_many area end = (end + step - area) / step

module _ (ps : List Point) (code : ℕ) where
  abbrev pub lines_left : ℕ → ℕ → List ℕ
  lines_left area end = entry_lines ps code area (so_many area end)

  lines_next : (area end : ℕ) → area ≤ end →
      entry_line area (R.factor ps code area) ++ lines_left (area + step) end ≡ lines_left area end
  unfolding entry_lines
  lines_next area end h =
      let e : so_many area end ≡ suc (so_many (area + step) end) = omega arith in
      rw (e, entry_lines)

  -- a line more, and one fewer left
  pub one_more : (text : List ℕ) {line whole : List ℕ} {area end : ℕ} {factor : ℤ} →
      text ++ lines_left area end ≡ whole →
      area ≤ end →
      mag factor < 2147483648 →
      factor ≡ R.factor ps code area →
      line ≡ entry_line area (to_z w32 (of_z w32 factor)) →
      (text ++ line) ++ lines_left (area + step) end ≡ whole
  one_more text {area = area} {end = end} lines h small e k =
      rw (k, to_z-of_z (record { sfits = small }), e, append_assoc, lines_next area end h) lines

  lines_end : (area end : ℕ) → end < area → lines_left area end ≡ []
  unfolding entry_lines
  lines_end area end h =
      let e : so_many area end ≡ 0 = omega arith in
      rw (e, entry_lines)

  pub all_lines : (text : List ℕ) {whole : List ℕ} {area end : ℕ} → text ++ lines_left area end ≡ whole → end < area →
      text ≡ whole
  all_lines text {area = area} {end = end} e h = rw (lines_end area end h, append-nil) at e

  module _ (e : accepts ps code ≡ true) where
    pub first_to_last : first ps ≤ last ps
    first_to_last = chain_ends (chained_of (accepted ps code e))

    pub last_limit : last ps ≤ area_most
    last_limit = (limits_of (accepted ps code e) (length ps - 1) (omega (arith, least ps code e))).area

    pub inside : (area : ℕ) → first ps ≤ area → area ≤ last ps → outside ps area ≡ false
    inside area h k =
        rw (outside_is ps area (omega (arith, least ps code e)), le-ltb area _ h, le-ltb _ area k)

pub lines_are : (ps : List Point) (code : ℕ) → accepts ps code ≡ true →
    lines_left ps code (first ps) (last ps) ≡ sheet_lines ps code
unfolding sheet_lines
lines_are [] code e = absurd (omega (arith, least [] code e))
lines_are (p ∷ ps) code e =
    let k = first_to_last (p ∷ ps) code e in
    let i : length (p ∷ ps) - 1 ≡ length ps = omega arith in
    let n : so_many p.area (last (p ∷ ps)) ≡ (last (p ∷ ps) - p.area) / step + 1 = omega arith in
    rw (n, last, i, last_area_at p ps, area_at (p ∷ ps) (length ps))
