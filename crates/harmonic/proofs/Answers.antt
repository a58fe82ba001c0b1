-- What the filling of slopes answers.
--   by_rated           rows 3, 4 and 6, and then row 5 of the figures
--   refused_by_rows    rows 1 to 6 of the points with slopes 0 refuse, and so does the filling
--   refused_by_steep   they pass, and row 5 of a figure refuses; given_all, it passes too
--   Given, given       what a number of points that is given says
-- Assumes nothing.
use mathlib.Core.Path.{◌≡◌, sym, ◌∙◌, ap}
use mathlib.Core.Bool.{false}
use mathlib.Core.List.{List}
use mathlib.Core.Option.{none}
use Prim.Native.Nat.{ℕ, ◌<◌}
use lib.ListN.{length}
use Rattle.model.specs.Answer.{Answer, gives, refused, row, ◌then◌, row_at_each}
use Rattle.model.specs.Check.{lengths_differ, bad_count, curve_rows}
use Rattle.model.specs.Inner.{Alike}
use Rattle.model.proofs.Answers.{then_assoc, then_refused, refused_first}
use Rattle.model.proofs.Places.{each_fails}
use Rattle.model.proofs.Rows.{gives_injective, then_first, then_rest, row_passed, alike_of_row_1}
use Rattle.harmonic.specs.Fill.{area_and_value_rows, too_steep, fill_answer}
use Rattle.harmonic.specs.Inner.{rated_rows, zero_slope_points}
use Rattle.harmonic.proofs.Rising.{zero_slope_rows}

module _ (areas values : List ℕ) (slopes : ℕ) (same : lengths_differ (length areas) (length values) slopes ≡ false)
    (count : bad_count (length areas) ≡ false) where
  abbrev pub after_rated : Answer ℕ
  after_rated = row_at_each (too_steep areas values) 5 0 (length areas) then gives (length areas)

  pub by_rated : fill_answer areas values slopes ≡ (rated_rows areas values then after_rated)
  unfolding fill_answer row ◌then◌
  by_rated = rw (same, count) (sym (then_assoc (area_and_value_rows 0 none areas values) _ _))

module _ (areas values : List ℕ) (slopes : ℕ) (same : lengths_differ (length areas) (length values) slopes ≡ false) where
  abbrev rows_of_zeros : Answer (Unit {0})
  rows_of_zeros = curve_rows (zero_slope_points areas values) 1

  abbrev steep_rows : Answer (Unit {0})
  steep_rows = row_at_each (too_steep areas values) 5 0 (length areas)

  by_zeros : fill_answer areas values slopes ≡ (rows_of_zeros then steep_rows then gives (length areas))
  unfolding fill_answer row ◌then◌
  by_zeros =
      let count = row (bad_count (length areas)) 1 0 in
      let first = area_and_value_rows 0 none areas values in
      rw (same, zero_slope_rows areas values (alike_of_row_1 _ _ _ same).values_too)
      (sym (then_assoc count (rated_rows areas values) _ ∙ ap (count then◌) (then_assoc first _ _)))

  pub refused_by_rows : {A : Type 0} (x : A) {number place : ℕ} → refused number place ≡ (rows_of_zeros then gives x) →
      refused number place ≡ fill_answer areas values slopes
  refused_by_rows x e = sym (by_zeros ∙ then_refused rows_of_zeros _ (refused_first rows_of_zeros x (sym e)))

  module _ (pass : rows_of_zeros ≡ gives tt) where
    pub refused_by_steep : {number place : ℕ} → refused number place ≡ steep_rows →
        refused number place ≡ fill_answer areas values slopes
    unfolding ◌then◌
    refused_by_steep e = sym (by_zeros ∙ (rw pass (then_refused steep_rows _ (sym e))))

    pub given_all : gives tt ≡ steep_rows → gives (length areas) ≡ fill_answer areas values slopes
    unfolding ◌then◌
    given_all e = sym (by_zeros ∙ (rw (pass, ← e)))

pub record Given (areas values : List ℕ) (slopes n : ℕ) : Type 0 where
  pub alike : Alike (length areas) (length values) slopes
  pub rows_pass : curve_rows (zero_slope_points areas values) 1 ≡ gives tt
  pub gentle : (i : ℕ) → i < length areas → too_steep areas values i ≡ false
  pub number : length areas ≡ n

pub given : (areas values : List ℕ) (slopes n : ℕ) → fill_answer areas values slopes ≡ gives n → Given areas values slopes n
unfolding fill_answer
given areas values slopes n e =
    let same = row_passed (lengths_differ (length areas) (length values) slopes) 1 0 _ e in
    let pass = sym (by_zeros areas values slopes same) ∙ e in
    let zeros = rows_of_zeros areas values slopes same in
    let steep = steep_rows areas values slopes same in
    let after_6 = then_rest zeros _ pass in
    record {
      alike = alike_of_row_1 _ _ _ same;
      rows_pass = then_first zeros _ pass;
      gentle = λ i h. each_fails (too_steep areas values) 5 (length areas) i (then_first steep _ after_6) h;
      number = gives_injective (then_rest steep _ after_6);
    }
