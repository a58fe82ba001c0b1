-- A segment and its mirror: what holds of a shape's curve on mirrored points holds of the rule, taken from 200,000.
--   value_most_even                  200,000 is even, so that the rounding of 200,000 less a value is 200,000 less the value's
--   mirror_limits, mirror_neighbours, mirror_good   mirrored points keep their limits; mirrored, a segment of a mirrored rule has
--                                                   the rule's shape (mirror_inside)
--   curve_proper                     the exact value of a rule has a denominator above 0
--   taken_back                       the value of a mirrored point, taken from 200,000, is the point's
--   curve_left, curve_right          it is the point's value at both ends
-- Assumes nothing.
use mathlib.Core.Path.{sym}
use mathlib.Core.List.{[], ◌∷◌}
use Prim.Native.Nat.{ℕ}
use native.Mathlib.Nat.{sub-le}
use lib.IntN.{pos, ◌-ℤ◌}
use lib.Dec.{T}
use Rattle.exact.specs.Fraction.{Fraction, Proper, whole, ◌-ℚ◌, ◌≈ℚ◌}
use Rattle.exact.specs.Rounding.{even}
use Rattle.exact.proofs.Order as Z
use Rattle.exact.proofs.Field.{field, ratios}
use Rattle.exact.proofs.Fractions as Q
use Rattle.exact.proofs.Fractions.{propers}
use Rattle.model.specs.Points.{value_most, Point, Segment, Shape, mirror, mirror_segment, Rule, plain, mirrored}
use Rattle.model.specs.Interpolant.{exact_curve}
use Rattle.model.specs.Shape.{segment_test}
use Rattle.model.specs.Inner.{Limits, Neighbours, Good, Inside}
use Rattle.model.proofs.ClosedForm.{Closed}
use Rattle.model.proofs.Segments.{v₀, v₁, interpolant_proper, interpolant_left, interpolant_right}

pub value_most_even : T (even (pos value_most))
unfolding even
value_most_even = tt

-- ---- points and segments

pub mirror_limits : {p : Point} → Limits p → Limits (mirror p)
unfolding mirror
mirror_limits {p} l =
    record {
      area = l.area;
      value = sub-le value_most p.value;
      slope_low = Z.≤_negated l.slope_high;
      slope_high = Z.≤_negated l.slope_low;
    }

pub mirror_neighbours : {s : Segment} → Neighbours s → Neighbours (mirror_segment s)
unfolding mirror
mirror_neighbours n =
    record { left = mirror_limits n.left; right = mirror_limits n.right; ordered = n.ordered; near = n.near }

module _ {shape : Shape} {s : Segment} where
  pub mirror_good : Good (mirrored shape) s → Good (plain shape) (mirror_segment s)
  unfolding segment_test
  mirror_good g = record { ends = mirror_neighbours g.ends; shaped = g.shaped }

  pub mirror_inside : {x : ℕ} → Inside (Good (mirrored shape)) s x → Inside (Good (plain shape)) (mirror_segment s) x
  unfolding mirror
  mirror_inside i = record { good = mirror_good i.good; low = i.low; high = i.high }

-- ---- the exact curve

pub curve_proper : {rule : Rule} {s : Segment} {x : ℕ} → Inside (Good rule) s x → Proper (exact_curve rule s x)
unfolding exact_curve
curve_proper {rule = plain shape} i = interpolant_proper i
curve_proper {rule = mirrored shape} i = let p = interpolant_proper (mirror_inside i) in search propers

-- the value of a mirrored point, taken from 200,000
pub taken_back : {p : Point} {v : Fraction} → Limits p → Closed v (whole (pos (mirror p).value)) →
    Closed (whole (pos value_most) -ℚ v) (whole (pos p.value))
unfolding mirror
taken_back {p} {v} l c =
    let q = c.proper in
    record {
      proper = search propers;
      same = Q.≈_trans (search propers) (Q.≈-- (Q.≈_refl _) c.same) (rw (sym (Z.difference_of_≤ l.value)) back);
    }
  where
    back : whole (pos value_most) -ℚ whole (pos value_most -ℤ pos p.value) ≈ℚ whole (pos p.value)
    back = field (pos p.value ∷ []) (search ratios depth 20 fits 9999) tt

-- document 01: at a rated point the segments on both sides give the point's value
module _ {s : Segment} where
  pub curve_left : {rule : Rule} → Good rule s → Closed (exact_curve rule s s.left.area) (whole (v₀ s))
  unfolding exact_curve mirror
  curve_left {rule = plain shape} g = interpolant_left g
  curve_left {rule = mirrored shape} g = taken_back g.ends.left (interpolant_left (mirror_good g))

  pub curve_right : {rule : Rule} → Good rule s → Closed (exact_curve rule s s.right.area) (whole (v₁ s))
  unfolding exact_curve mirror
  curve_right {rule = plain shape} g = interpolant_right g
  curve_right {rule = mirrored shape} g = taken_back g.ends.right (interpolant_right (mirror_good g))
