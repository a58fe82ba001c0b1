-- The rows of a file for a sheet.
--   head_passed          a file whose head is right
--   head_refused         rows 9 and 10 of the file's head decide
--   too_long             a file of more than 775 bytes, whose head is right
--   points_decide        otherwise rows 1 to 6 of the points do
-- Assumes nothing.
use Rattle.std.proofs.Common.{◌≡◌, sym, ℕ, ◌≤◌, ◌<◌, Bool, true, false, List, length, arith}
use borrow.Author.Tests.{lt-ltb, le-ltb}
use Rattle.model.specs.Answer.{Answer, gives, refused, row, ◌then◌}
use Rattle.model.specs.Points.{points_most}
use Rattle.model.specs.Check.{curve_rows}
use Rattle.model.proofs.Rows.{gives_injective, refused≢gives, then_first, then_rest, row_passed}
use Rattle.layout.specs.Layout.{point_offset, shape_code, count, points_of}
use Rattle.layout.specs.Head.{bad_head, bad_size, head_rows}
use Rattle.layout.proofs.Heads.{size_of_passed}
use Rattle.file.specs.Open.{short_list, open_answer}
use Rattle.sheet_text.specs.SheetText.{file_answer}

-- two rows that refuse do so with another between them that refuses by the second's number
between : {A : Type 0} {n i : ℕ} (a b c : Bool) (rest : Answer A) → (row a 9 0 then row c 10 0) ≡ refused n i →
    (row a 9 0 then row b 10 0 then (row a 9 0 then row c 10 0) then rest) ≡ refused n i
unfolding row ◌then◌
between true b c rest e = cc
between false true true rest e = cc
between false false true rest e = cc
between false b false rest e = absurd (refused≢gives (sym e))

pub head_passed : {bytes file : List ℕ} → gives file ≡ (head_rows bytes then gives bytes) →
    (head_rows bytes ≡ gives tt) × (file ≡ bytes)
head_passed {bytes} e =
    (then_first (head_rows bytes) _ (sym e), sym (gives_injective (then_rest (head_rows bytes) _ (sym e))))

module _ (bytes : List ℕ) where
  pub head_refused : {n i : ℕ} → head_rows bytes ≡ refused n i → file_answer bytes ≡ refused n i
  unfolding file_answer open_answer head_rows
  head_refused e = between (bad_head bytes) _ (bad_size bytes) _ e

  module _ (head : head_rows bytes ≡ gives tt) where
    passed : bad_head bytes ≡ false
    unfolding head_rows
    passed = row_passed (bad_head bytes) 9 0 _ head

    pub too_long : point_offset points_most < length bytes → file_answer bytes ≡ refused 10 0
    unfolding file_answer row ◌then◌
    too_long h = rw (passed, lt-ltb _ (length bytes) h)

    pub points_decide : length bytes ≤ point_offset points_most →
        (curve_rows (points_of bytes) (shape_code bytes) then gives (record { shape = shape_code bytes; count = count bytes }))
        ≡ file_answer bytes
    unfolding file_answer open_answer short_list row ◌then◌
    points_decide h =
        let few : count bytes ≤ points_most = omega (arith, size_of_passed bytes head) in
        sym (rw (passed, le-ltb _ (length bytes) h, head, le-ltb points_most (count bytes) few))
