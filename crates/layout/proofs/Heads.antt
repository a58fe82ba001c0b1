-- Rows 9 and 10.
--   head_is_there     row 9: the file has its head; Marked, marked, with its mark and version
--   size_of_passed    rows 9 and 10: the file has its head and its points, and no more
--   word_of_good      row 9: the number of the first 4 bytes; upper_byte, and the byte after them
--   in_head           and the numbers and places of their refusals
-- Assumes nothing.
use mathlib.Core.Path.{◌≡◌, refl}
use mathlib.Core.Bool.{Bool, true, false, not, ◌||◌}
use mathlib.Core.List.{List}
use Prim.Native.Nat.{ℕ, zero, suc, ◌+◌, ◌*◌, ◌≤◌}
use native.Mathlib.Omega.{arith}
use borrow.Author.Tests.{eqb-true, ltb-false, not-false, ne_eqb}
use lib.Dec.{eqb, ltb}
use lib.ListN.{length}
use Rattle.model.specs.Answer.{gives, row}
use Rattle.exact.proofs.Tests.{or_left, or_right}
use Rattle.model.proofs.Rows.{row_left, then_rest}
use Rattle.model.proofs.Numbered.{Numbered, in_row, in_then}
use Rattle.layout.specs.Layout.{head_size, point_offset, byte, version, count}
use Rattle.layout.proofs.Numbers.{two_bytes}
use Rattle.layout.specs.Head.{wrong_mark, bad_head, bad_size, head_rows}

abbrev pub mark_and_1 : ℕ
mark_and_1 = 84 + 256 * 82 + 65536 * 70 + 16777216 * 1

pub is_true : (b : Bool) → (b ≡ false → ⊥) → b ≡ true
is_true true f = refl
is_true false f = absurd (f refl)

pub upper_byte : (b : ℕ) → not (eqb b 0) ≡ not (eqb (1 + 256 * b) 1)
upper_byte zero = refl
upper_byte (suc b) = rw (ne_eqb (suc b) 0 (λ e. omega arith), ne_eqb (1 + 256 * suc b) 1 (λ e. omega arith))

module _ (bytes : List ℕ) where
  pub head_is_there : bad_head bytes ≡ false → head_size ≤ length bytes
  unfolding bad_head
  head_is_there e =
      ltb-false (length bytes) head_size (or_left _ (wrong_mark bytes) (or_left _ (not (eqb (version bytes) 1)) e))

  pub record Marked : Type 0 where
    pub t : byte bytes 0 ≡ 84
    pub r : byte bytes 1 ≡ 82
    pub f : byte bytes 2 ≡ 70
    pub first_version : version bytes ≡ 1

  abbrev other : ℕ → ℕ → Bool
  other at b = not (eqb (byte bytes at) b)

  pub marked : bad_head bytes ≡ false → Marked
  unfolding bad_head wrong_mark
  marked e =
      let short = ltb (length bytes) head_size in
      let other_version = not (eqb (version bytes) 1) in
      let mark = or_right short (wrong_mark bytes) (or_left (short || wrong_mark bytes) other_version e) in
      let letters = or_left (other 0 84 || other 1 82) (other 2 70) mark in
      record {
        t = eqb-true (byte bytes 0) 84 (not-false _ (or_left (other 0 84) (other 1 82) letters));
        r = eqb-true (byte bytes 1) 82 (not-false _ (or_right (other 0 84) (other 1 82) letters));
        f = eqb-true (byte bytes 2) 70 (not-false _ (or_right (other 0 84 || other 1 82) (other 2 70) mark));
        first_version = eqb-true (version bytes) 1 (not-false _ (or_right (short || wrong_mark bytes) other_version e));
      }

  -- TRF and the lower byte of version 1, as the number of the first 4 bytes
  abbrev pub first_word : ℕ
  first_word = byte bytes 0 + 256 * byte bytes 1 + 65536 * byte bytes 2 + 16777216 * byte bytes 3

  pub word_of_good : bad_head bytes ≡ false → first_word ≡ mark_and_1
  word_of_good e = let m = marked e in omega (arith, m.t, m.r, m.f, m.first_version, two_bytes bytes 3)

  pub size_of_passed : head_rows bytes ≡ gives tt → length bytes ≡ point_offset (count bytes)
  unfolding head_rows bad_size
  size_of_passed e =
      let size = row_left (bad_size bytes) 10 0 (then_rest (row (bad_head bytes) 9 0) _ e) in
      eqb-true (length bytes) _ (not-false _ size)

  pub in_head : Numbered (head_rows bytes)
  unfolding head_rows
  in_head = in_then _ _ (in_row _ 9 0 tt (omega arith)) (λ _. in_row _ 10 0 tt (omega arith))
