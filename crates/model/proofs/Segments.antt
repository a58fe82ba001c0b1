-- A segment of an accepted curve: its slopes over 100 h, and what its curve does between its two areas.
--   gap, rise, distance              h, F, and t at an area
--   v₀, v₁, d₀, d₁                   the values and the slopes of the ends
--   S, e₀, g, e₁, a, b               as in ClosedForm: S = 100 h, e₀ = h D₀, g = 100 F, e₁ = h D₁, a = e₁ − g, b = g − e₀
--   curve_at, slope_at               the curve, and the slope of the convex curve, at a distance from the left end
--   segment_rises, segment_bends     what they do between the ends; left_slope_rises, a rising segment's left slope is 0 or more
--   convex_rises                     a convex segment with a left slope of 0 or more rises, and its right slope is 0 or more
--   distance_in                      an area inside the segment is at a distance from 0 to h
--   interpolant_proper, -left, -right    the exact value has a denominator above 0, and is the point's value at both ends
-- Assumes nothing.
use mathlib.Core.Path.{◌≡◌}
use mathlib.Core.Bool.{true}
use mathlib.Core.List.{[], ◌∷◌}
use Prim.Native.Nat.{ℕ, ◌<◌}
use lib.IntN.{ℤ, pos, ◌-ℤ◌, ◌*ℤ◌, +ℤ_invr}
use lib.Signed.{◌≤ℤ◌, ◌<ℤ◌}
use Rattle.exact.specs.Fraction.{Fraction, Proper, ◌over◌, whole}
use Rattle.exact.proofs.Tests.{T_true}
use Rattle.exact.proofs.Ring.{ring, terms}
use Rattle.exact.proofs.Order as Z
use Rattle.exact.proofs.Order.{signs}
use Rattle.exact.proofs.Field.{field, ratios}
use Rattle.exact.proofs.Fractions.{NonNeg, positivity}
use Rattle.model.specs.Points.{Point, gradient, Segment, Shape, rising, convex, plain}
use Rattle.model.specs.Interpolant.{curve, interpolant}
use Rattle.model.specs.Shape.{fits, has_shape, segment_test}
use Rattle.model.specs.Inner.{Good, Inside}
use Rattle.model.proofs.ClosedForm.{Closed, In, Normal}
use Rattle.model.proofs.Inside.{Joins, Rises, Bends, end_left, end_right}
use Rattle.model.proofs.Curves.{rise_kind, left_slope_of_rise, bend_kind, rising_of_bend}
use Rattle.model.proofs.Curves.{rising_rises, convex_bends, convex_curve_slope}

pub proper_gradient : (p : Point) → Proper (gradient p)
unfolding gradient
proper_gradient p = search positivity

module _ (s : Segment) where
  abbrev pub gap : ℤ
  gap = pos s.right.area -ℤ pos s.left.area

  abbrev pub rise : ℤ
  rise = pos s.right.value -ℤ pos s.left.value

  abbrev pub distance : ℕ → ℤ
  distance x = pos x -ℤ pos s.left.area

  abbrev pub v₀ : ℤ
  v₀ = pos s.left.value

  abbrev pub v₁ : ℤ
  v₁ = pos s.right.value

  abbrev pub d₀ : Fraction
  d₀ = gradient s.left

  abbrev pub d₁ : Fraction
  d₁ = gradient s.right

  abbrev pub S : ℤ
  S = pos 100 *ℤ gap

  abbrev pub g : ℤ
  g = pos 100 *ℤ rise

  abbrev pub e₀ : ℤ
  e₀ = gap *ℤ s.left.slope

  abbrev pub e₁ : ℤ
  e₁ = gap *ℤ s.right.slope

  abbrev pub a : ℤ
  a = e₁ -ℤ g

  abbrev pub b : ℤ
  b = g -ℤ e₀

  abbrev pub curve_at : Shape → ℤ → Fraction
  curve_at shape t = curve gap v₀ v₁ t d₀ d₁ shape

  abbrev pub slope_at : ℤ → Fraction
  slope_at t = convex_curve_slope gap v₀ v₁ d₀ d₁ S a g b t

  pub gap_positive : s.left.area < s.right.area → pos 0 <ℤ gap
  gap_positive h = Z.positive_difference (Z.pos_<_of_< h)

  pub segment_normal : s.left.area < s.right.area → Normal gap v₀ v₁ d₀ d₁ S e₀ g e₁
  unfolding gradient
  segment_normal h =
      let h_positive = gap_positive h in
      record {
        h_positive = h_positive;
        S_positive = search signs;
        left_proper = search positivity;
        right_proper = search positivity;
        left_slope = field (s.left.slope ∷ gap ∷ []) (search ratios depth 20 fits 9999) tt;
        right_slope = field (s.right.slope ∷ gap ∷ []) (search ratios depth 20 fits 9999) tt;
        chord_slope = field (rise ∷ gap ∷ []) (search ratios depth 20 fits 9999) tt;
      }

  pub segment_rises : Good (plain rising) s → Rises gap v₀ v₁ (curve_at rising)
  unfolding curve segment_test has_shape fits
  segment_rises k = rising_rises (segment_normal k.ends.ordered) (rise_kind gap v₀ v₁ k.shaped)

  pub left_slope_rises : Good (plain rising) s → NonNeg d₀
  unfolding segment_test has_shape fits
  left_slope_rises k = left_slope_of_rise (rise_kind gap v₀ v₁ k.shaped)

  pub segment_bends : Good (plain convex) s → Bends gap v₀ v₁ d₀ d₁ (curve_at convex) slope_at
  unfolding curve segment_test has_shape fits
  segment_bends k = convex_bends (segment_normal k.ends.ordered) (bend_kind gap rise k.shaped)

  -- section 3.3 of the report (TR/10/83), of one segment: the test of rising data follows from the left slope
  pub convex_rises : s.left.area < s.right.area → has_shape convex s ≡ true → pos 0 ≤ℤ s.left.slope →
      (has_shape rising s ≡ true) × (pos 0 ≤ℤ s.right.slope)
  unfolding has_shape fits gradient ◌over◌
  convex_rises h e up =
      let bend = bend_kind gap rise (rw e tt) in
      let (t, k) = rising_of_bend gap rise (proper_gradient s.left) (proper_gradient s.right) (gap_positive h) bend
      (record { sign = up }) in
      (T_true _ t, k.sign)

  segment_joins : (shape : Shape) → Good (plain shape) s → Joins gap v₀ v₁ (curve_at shape)
  segment_joins rising k = (segment_rises k).joins
  segment_joins convex k = (segment_bends k).joins

pub distance_in : {G : Segment → Type 0} {s : Segment} {x : ℕ} → Inside G s x → In (gap s) (distance s x)
distance_in {s = s} {x = x} r =
    record {
      low = Z.nonneg_difference (Z.pos_≤_of_≤ r.low);
      high = rw to_right (Z.nonneg_difference (Z.pos_≤_of_≤ r.high));
    }
  where
    to_right : gap s -ℤ distance s x ≡ pos s.right.area -ℤ pos x
    to_right = ring (pos s.right.area ∷ pos x ∷ pos s.left.area ∷ []) (search terms depth 20 fits 9999) tt

module _ {shape : Shape} {s : Segment} where
  pub interpolant_proper : {x : ℕ} → Inside (Good (plain shape)) s x → Proper (interpolant shape s x)
  unfolding interpolant
  interpolant_proper r = (segment_joins s shape r.good).proper (distance_in r)

  -- document 01: at a rated point the segments on both sides give the point's value
  pub interpolant_left : Good (plain shape) s → Closed (interpolant shape s s.left.area) (whole (v₀ s))
  unfolding interpolant
  interpolant_left k =
      let j = segment_joins s shape k in
      rw +ℤ_invr (record { proper = j.proper (end_left j); same = j.at_left })

  pub interpolant_right : Good (plain shape) s → Closed (interpolant shape s s.right.area) (whole (v₁ s))
  unfolding interpolant
  interpolant_right k =
      let j = segment_joins s shape k in
      record { proper = j.proper (end_right j); same = j.at_right }
