-- Document 01, "Refusals and their places", rows 1 to 6, and what Check answers.
-- Assumes nothing.
use Rattle.std.specs.Prelude.{ℕ, suc, ◌+◌, Bool, not, ◌||◌, List, [], ◌∷◌, map, eqb, leb, ltb, ℤ, pos, neg_ℤ, length}
use Rattle.std.proofs.Math.Option.{Option, none, some}
use Rattle.std.specs.Int.Signed.{lt_z}
use Rattle.model.specs.Answer.{Answer, gives, row, ◌then◌}
use Rattle.model.specs.Points.{points_least, points_most, area_most, gap_most, value_most, slope_most}
use Rattle.model.specs.Points.{Point, points, Segment, segments, Rule, rule_of}
use Rattle.model.specs.Shape.{segment_test}

-- row 1: list lengths differ
unfoldable pub lengths_differ : ℕ → ℕ → ℕ → Bool
lengths_differ areas values slopes = not (eqb areas values) || not (eqb areas slopes)

-- row 1: fewer than 2 or more than 64 points
unfoldable pub bad_count : ℕ → Bool
bad_count count = ltb count points_least || ltb points_most count

-- row 2: shape code outside 1 to 4 (document 02, item 4)
unfoldable pub bad_code : ℕ → Bool
bad_code code = ltb code 1 || ltb 4 code

-- row 3: area above 20,000, or not larger than the one before, or more than 2,000 beyond it
unfoldable pub bad_area : Option ℕ → ℕ → Bool
bad_area none area = ltb area_most area
bad_area (some before) area = ltb area_most area || leb area before || ltb (before + gap_most) area

-- row 4: value above 200,000
unfoldable pub bad_value : ℕ → Bool
bad_value value = ltb value_most value

-- row 5: slope outside −10,000 to 10,000
unfoldable pub bad_slope : ℤ → Bool
bad_slope slope = lt_z slope (neg_ℤ (pos slope_most)) || lt_z (pos slope_most) slope

-- rows 3, 4 and 5 together at each point, from the point at place i on
unfoldable pub point_rows : ℕ → Option ℕ → List Point → Answer (Unit {0})
point_rows i before [] = gives tt
point_rows i before (p ∷ ps) =
    row (bad_area before p.area) 3 i then row (bad_value p.value) 4 i then row (bad_slope p.slope) 5 i
    then point_rows (suc i) (some p.area) ps

-- row 6: the segment does not have its shape; the place is its left point's
unfoldable pub segment_rows : ℕ → Rule → List Segment → Answer (Unit {0})
segment_rows i rule [] = gives tt
segment_rows i rule (s ∷ ss) = row (not (segment_test rule s)) 6 i then segment_rows (suc i) rule ss

-- rows 1 to 6 of points and a shape code
unfoldable pub curve_rows : List Point → ℕ → Answer (Unit {0})
curve_rows ps code =
    row (bad_count (length ps)) 1 0 then row (bad_code code) 2 0
    then point_rows 0 none ps then segment_rows 0 (rule_of code) (segments ps)

-- Check: the number of segments
unfoldable pub check_answer : List Point → ℕ → Answer ℕ
check_answer ps code = curve_rows ps code then gives (length (segments ps))

-- a call on points that come in three lists: their lengths are tried first
unfoldable pub on_lists : {A : Type 0} → List ℕ → List ℕ → List ℤ → (List Point → Answer A) → Answer A
on_lists areas values slopes call =
    row (lengths_differ (length areas) (length values) (length slopes)) 1 0 then call (points areas values slopes)

-- a call on the three lists of some points
abbrev pub on_lists_of : {A : Type 0} → List Point → (List Point → Answer A) → Answer A
on_lists_of ps = on_lists (map (λ p. p.area) ps) (map (λ p. p.value) ps) (map (λ p. p.slope) ps)
