-- Document 02, item 2: what the filling of slopes answers, of the areas, the values and the length of the slope list. What that
-- list holds is not looked at.
-- Assumes nothing.
use Rattle.std.specs.Prelude.{ℕ, suc, ◌-◌, Bool, List, [], ◌∷◌, ltb, ℤ, pos, length, get_or}
use Rattle.std.proofs.Math.Option.{Option, none, some}
use Rattle.std.specs.Int.Signed.{lt_z}
use Rattle.model.specs.Answer.{Answer, gives, row, ◌then◌, row_at_each, filled}
use Rattle.model.specs.Points.{slope_most}
use Rattle.model.specs.Check.{lengths_differ, bad_count, bad_area, bad_value}
use Rattle.harmonic.specs.Rule.{figure, figures}

-- rows 3 and 4 together at each point, from the point at place i on
unfoldable pub area_and_value_rows : ℕ → Option ℕ → List ℕ → List ℕ → Answer (Unit {0})
area_and_value_rows i before [] values = gives tt
area_and_value_rows i before (a ∷ areas) [] = gives tt
area_and_value_rows i before (a ∷ areas) (v ∷ values) =
    row (bad_area before a) 3 i then row (bad_value v) 4 i then area_and_value_rows (suc i) (some a) areas values

-- row 6: the segment that begins at i falls
unfoldable pub falls : List ℕ → ℕ → Bool
falls values i = ltb (get_or values (suc i) 0) (get_or values i 0)

-- row 5: the rounded slope at i is above the range
unfoldable pub too_steep : List ℕ → List ℕ → ℕ → Bool
too_steep areas values i = lt_z (pos slope_most) (figure areas values i)

-- rows 1, 3 and 4, then 6, then 5; the number of points
unfoldable pub fill_answer : List ℕ → List ℕ → ℕ → Answer ℕ
fill_answer areas values slopes =
    row (lengths_differ (length areas) (length values) slopes) 1 0 then row (bad_count (length areas)) 1 0
    then area_and_value_rows 0 none areas values
    then row_at_each (falls values) 6 0 (length areas - 1)
    then row_at_each (too_steep areas values) 5 0 (length areas)
    then gives (length areas)

-- the slope list after the call: a figure for each point; after a refusal as found
abbrev pub slopes_after : List ℕ → List ℕ → List ℤ → List ℤ
slopes_after areas values slopes = filled (fill_answer areas values (length slopes)) (figures areas values) slopes
