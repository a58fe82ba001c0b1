-- Rows 8 and 7 of the entries of a sheet, on the curve of three lists.
--   rows_8_and_7         rows 8 and 7 of points
--   refused_sheet        they refuse, and Sheet does
--   AllPass, all_pass    they refuse nothing: every entry is inside the curve, there are at most 1,024, and Sheet counts them
-- Assumes nothing.
use Rattle.std.proofs.Common.{◌≡◌, ℕ, ◌≤◌, List, false, eqb, ◌||◌, sym, ◌∙◌, ap, ltb-false}
use lib.IntN.{ℤ}
use Rattle.exact.proofs.Tests.{or_right}
use Rattle.model.specs.Answer.{Answer, gives, refused, row, ◌then◌}
use Rattle.model.specs.Points.{Point, points}
use Rattle.model.specs.Check.{on_lists}
use Rattle.model.specs.Sheet.{entries_most, bad_sheet, entry_rows, sheet_answer}
use Rattle.model.proofs.Rows.{row_passed, then_rest}
use Rattle.model.proofs.Answers.{then_assoc, then_refused}
use Rattle.model.proofs.Places.{each_fails}
use Rattle.entries.specs.Inner.{AllInside}
use Rattle.rows.proofs.Lists.{with_code, after_rows}

abbrev pub rows_8_and_7 : (start step n : ℕ) → List Point → Answer (Unit {0})
rows_8_and_7 start step n ps = row (bad_sheet step n) 8 0 then entry_rows ps start step n

most_of_row_8 : (step n : ℕ) → bad_sheet step n ≡ false → n ≤ entries_most
unfolding bad_sheet
most_of_row_8 step n e = ltb-false entries_most n (or_right (eqb step 0 || eqb n 0) _ e)

module _ (areas values : List ℕ) (slopes : List ℤ) (code : ℕ) (used : List Point → ℕ) {shape : ℕ}
    (e : gives shape ≡ on_lists areas values slopes (with_code code used)) (start step n : ℕ) where
  after_6 : on_lists areas values slopes (λ qs. sheet_answer qs code start step n)
      ≡ (rows_8_and_7 start step n (points areas values slopes) then gives n)
  unfolding sheet_answer
  after_6 =
      after_rows areas values slopes code used e (λ qs. row (bad_sheet step n) 8 0 then entry_rows qs start step n then gives n)
      ∙ sym (then_assoc (row (bad_sheet step n) 8 0) _ (gives n))

  pub refused_sheet : {number place : ℕ} → refused number place ≡ rows_8_and_7 start step n (points areas values slopes) →
      refused number place ≡ on_lists areas values slopes (λ qs. sheet_answer qs code start step n)
  refused_sheet k = sym (after_6 ∙ then_refused _ _ (sym k))

  pub record AllPass : Type 0 where
    pub inside : AllInside (points areas values slopes) start step n
    pub most : n ≤ entries_most
    pub answer : gives n ≡ on_lists areas values slopes (λ qs. sheet_answer qs code start step n)

  pub all_pass : gives tt ≡ rows_8_and_7 start step n (points areas values slopes) → AllPass
  unfolding ◌then◌
  all_pass k =
      record {
        inside = record { inside = λ i h. each_fails _ 7 n i (then_rest (row (bad_sheet step n) 8 0) _ (sym k)) h };
        most = most_of_row_8 step n (row_passed (bad_sheet step n) 8 0 _ (sym k));
        answer = sym (after_6 ∙ ap (λ a. a then gives n) (sym k));
      }
