-- Document 01: the segment that an area takes, the exact value there, the reading ("Rounding"), and what Read answers. Document
-- 02, item 8: the code by whose rule a curve is read.
-- Assumes nothing.
use Rattle.std.specs.Prelude.{ℕ, suc, Bool, true, cond, ◌&&◌, ◌||◌, List, [], ◌∷◌, eqb, leb, ltb, ℤ}
use Rattle.exact.specs.Fraction.{Fraction}
use Rattle.exact.specs.Rounding.{round}
use Rattle.model.specs.Answer.{Answer, gives, row, ◌then◌}
use Rattle.model.specs.Points.{Point, Segment, segments, segment_at, convex, rule_of}
use Rattle.model.specs.Interpolant.{exact_curve}
use Rattle.model.specs.Shape.{has_shape}
use Rattle.model.specs.Check.{curve_rows}

-- the index of the last segment whose left area is not above the area read: `last` so far, in a list that begins with segment i
unfoldable pub last_from : (area last i : ℕ) → List Segment → ℕ
last_from area last i [] = last
last_from area last i (s ∷ ss) = last_from area (cond (leb s.left.area area) i last) (suc i) ss

-- the index of the segment read
unfoldable pub segment_read : List Point → ℕ → ℕ
segment_read ps area = last_from area 0 0 (segments ps)

-- the exact value there, by the rule of a code
unfoldable pub exact_value : List Point → ℕ → ℕ → Fraction
exact_value ps code area = exact_curve (rule_of code) (segment_at ps (segment_read ps area)) area

-- rounded once
unfoldable pub reading : List Point → ℕ → ℕ → ℤ
reading ps code area = round (exact_value ps code area)

-- Document 02, item 8: every segment passes the convex test
unfoldable pub all_convex : List Segment → Bool
all_convex [] = true
all_convex (s ∷ ss) = has_shape convex s && all_convex ss

-- item 8: the convex rule comes first. A curve under 1 that passes both tests is read by the rule of 2, every other curve by that
-- of its own code. (Check asks the rising test under 1 already.)
unfoldable pub used_code : List Point → ℕ → ℕ
used_code ps code = cond (eqb code 1 && all_convex (segments ps)) 2 code

-- the factor of a curve: its reading by that rule
unfoldable pub factor : List Point → ℕ → ℕ → ℤ
factor ps code area = reading ps (used_code ps code) area

abbrev pub last_area : Point → List Point → ℕ
last_area p [] = p.area
last_area p (q ∷ ps) = last_area q ps

-- row 7: an area read is before the first point's or beyond the last
unfoldable pub outside : List Point → ℕ → Bool
outside [] area = true
outside (p ∷ ps) area = ltb area p.area || ltb (last_area p ps) area

-- rows 1 to 6, then 7 at place 0
unfoldable pub read_answer : List Point → ℕ → ℕ → Answer ℤ
read_answer ps code area = curve_rows ps code then row (outside ps area) 7 0 then gives (factor ps code area)
