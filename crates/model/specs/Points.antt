-- Document 01, "The figures and their units".
-- Assumes nothing.
use Rattle.std.specs.Prelude.{ℕ, suc, ◌-◌, cond, List, [], ◌∷◌, eqb, leb, ℤ, pos, neg_ℤ, get_or}
use Rattle.exact.specs.Fraction.{Fraction, ◌over◌}

-- a curve is a list of 2 to 64 points
abbrev pub points_least : ℕ
points_least = 2

abbrev pub points_most : ℕ
points_most = 64

-- the largest area; each area is larger than the one before it, by at most 2,000
abbrev pub area_most : ℕ
area_most = 20000

abbrev pub gap_most : ℕ
gap_most = 2000

-- the largest value, and the largest size of a slope
abbrev pub value_most : ℕ
value_most = 200000

abbrev pub slope_most : ℕ
slope_most = 10000

-- area in tenths of a square metre; value in units (ten-thousandths); slope in hundredths of a unit for each tenth
pub record Point : Type 0 where
  pub area : ℕ
  pub value : ℕ
  pub slope : ℤ

-- the slope as an exact fraction: the figure over 100
unfoldable pub gradient : Point → Fraction
gradient p = p.slope over pos 100

-- the three lent lists, point by point
unfoldable pub points : List ℕ → List ℕ → List ℤ → List Point
points [] values slopes = []
points (a ∷ areas) [] slopes = []
points (a ∷ areas) (v ∷ values) [] = []
points (a ∷ areas) (v ∷ values) (s ∷ slopes) = record { area = a; value = v; slope = s } ∷ points areas values slopes

-- two neighbouring points
pub record Segment : Type 0 where
  pub left : Point
  pub right : Point

abbrev pub between : Point → Point → Segment
between left right = record { left = left; right = right }

unfoldable pub segments : List Point → List Segment
segments [] = []
segments (p ∷ []) = []
segments (p ∷ q ∷ ps) = between p q ∷ segments (q ∷ ps)

-- the point at an index; a list that ends before it gives 0/0/0
abbrev pub origin : Point
origin = record { area = 0; value = 0; slope = pos 0 }

abbrev pub point_at : List Point → ℕ → Point
point_at ps i = get_or ps i origin

-- the segment at an index: the point there and the next
abbrev pub segment_at : List Point → ℕ → Segment
segment_at ps i = between (point_at ps i) (point_at ps (suc i))

-- 1 is rising, 2 is convex
pub data Shape : Type 0 where
  rising convex : Shape

unfoldable pub shape_of : ℕ → Shape
shape_of code = cond (eqb code 1) rising convex

-- Document 02, item 4: a point whose value is 200,000 less the value and whose slope changes sign. It is taken where row 4 is
-- passed.
unfoldable pub mirror : Point → Point
mirror p = record { area = p.area; value = value_most - p.value; slope = neg_ℤ p.slope }

abbrev pub mirror_segment : Segment → Segment
mirror_segment s = record { left = mirror s.left; right = mirror s.right }

-- the test and the curve of a shape, on the points themselves or on mirrored points
pub data Rule : Type 0 where
  plain mirrored : Shape → Rule

-- 3 is falling, 4 is concave: the rules of 1 and 2 in turn, on mirrored points; row 2 refuses other codes
unfoldable pub rule_of : ℕ → Rule
rule_of code = cond (leb code 2) (plain (shape_of code)) (mirrored (shape_of (code - 2)))
