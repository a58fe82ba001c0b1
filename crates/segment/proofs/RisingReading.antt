-- The reading of a rising segment, in the natural numbers that the code computes with.
--   rising_input, rising_reads    what `rising` asks where the value changes, and that `rising_value` is the value
--   level_reads                   where it does not change
-- Assumes nothing.
use mathlib.Core.Path.{◌≡◌, refl, ap}
use mathlib.Core.List.{[], ◌∷◌}
use Prim.Native.Nat.{ℕ, ◌+◌, ◌-◌, ◌*◌, ◌≤◌, ◌<◌}
use native.Mathlib.Omega.{arith}
use lib.IntN.{ℤ, pos, nat_abs, ◌+ℤ◌, ◌*ℤ◌}
use lib.Signed.{◌<ℤ◌}
use Rattle.exact.specs.Fraction.{◌over◌, whole, ◌+ℚ◌, ◌*ℚ◌, ◌≈ℚ◌}
use Rattle.exact.specs.Rounding.{round}
use Rattle.exact.proofs.Ring.{ring_ℕ, terms}
use Rattle.exact.proofs.Order as Z
use Rattle.exact.proofs.Field.{field, ratios}
use Rattle.exact.proofs.Fractions as Q
use Rattle.exact.proofs.Fractions.{NonNeg, propers}
use Rattle.exact.proofs.Rounding.{round_rounding, rounding_at_whole}
use Rattle.model.specs.Points.{Point, gradient, Segment, rising, plain}
use Rattle.model.specs.Interpolant as I
use Rattle.model.specs.Interpolant.{interpolant}
use Rattle.model.specs.Shape.{fits, has_shape, segment_test}
use Rattle.model.specs.Inner.{Good, Inside}
use Rattle.model.proofs.ClosedForm.{Closed, Climbing, A, B, B_positive, rising_form, climbing_of_normal, flat_value, rising_value}
use Rattle.model.proofs.Curves.{climbs, flat, rise_kind}
use Rattle.model.proofs.Segments.{gap, rise, distance, v₀, v₁, d₀, d₁, S, e₀, e₁, g, segment_normal, distance_in}
use Rattle.point.proofs.Figures.{slope_size}
use Rattle.shape.proofs.Figures.{gap_is}
use Rattle.segment.specs.Inner as inner
use Rattle.segment.specs.Inner.{part, RisingInput}
use Rattle.segment.proofs.Distances.{t, u, h_is, from_left, from_right, distances}

module _ (s : Segment) where
  abbrev F : ℕ
  F = s.right.value - s.left.value

  abbrev D₀ : ℕ
  D₀ = nat_abs s.left.slope

  abbrev D₁ : ℕ
  D₁ = nat_abs s.right.slope

  -- A from the left end and A from the right end, whose sum is B
  abbrev left : ℕ → ℕ
  left x = inner.left_part (t s x) (u s x) F D₀ D₁

  abbrev right : ℕ → ℕ
  right x = inner.right_part (t s x) (u s x) F D₀ D₁

two_parts : (t u G E₀ E₁ : ℕ) → G * (t * t + u * u) + (E₀ + E₁) * (t * u) ≡ part t u G E₀ + part u t G E₁
two_parts t u G E₀ E₁ = ring_ℕ (t ∷ u ∷ G ∷ E₀ ∷ E₁ ∷ []) (search terms depth 20 fits 9999) tt

over_one : (l f a b : ℤ) → whole l +ℚ whole f *ℚ (a over b) ≈ℚ (l *ℤ b +ℤ a *ℤ f) over b
over_one l f a b = field (l ∷ f ∷ a ∷ b ∷ []) (search ratios depth 20 fits 9999) tt

-- ---- where the value changes

slope_natural : (p : Point) → NonNeg (gradient p) → p.slope ≡ pos (nat_abs p.slope)
unfolding gradient ◌over◌
slope_natural p k = Z.natural_of_nonneg k.sign

-- A segment that rises.
pub record Rises (s : Segment) (x : ℕ) : Type 0 where
  pub values : s.left.value ≤ s.right.value
  pub left_slope : s.left.slope ≡ pos (D₀ s)
  pub right_slope : s.right.slope ≡ pos (D₁ s)
  pub above_0 : 0 < left s x + right s x
  pub value : Closed (interpolant rising s x)
      (whole (v₀ s) +ℚ whole (pos (F s)) *ℚ (pos (left s x) over pos (left s x + right s x)))

module _ {s : Segment} {x : ℕ}
    (i : Inside (Good (plain rising)) s x)
    (climb : pos 0 <ℤ rise s)
    (k₀ : NonNeg (d₀ s))
    (k₁ : NonNeg (d₁ s)) where
  climbing : Climbing (gap s) (v₀ s) (v₁ s) (d₀ s) (d₁ s) (S s) (e₀ s) (g s) (e₁ s)
  climbing = climbing_of_normal (segment_normal s i.good.ends.ordered) climb k₀ k₁

  rising_closed : Closed (interpolant rising s x)
      (rising_form (gap s) (v₀ s) (v₁ s) (distance s x) (e₀ s) (g s) (e₁ s))
  unfolding I.interpolant I.curve
  rising_closed = rising_value climbing (distance_in i)

  values_≤ : s.left.value ≤ s.right.value
  values_≤ = Z.≤_of_pos_≤ (Z.≤_of_< (Z.<_by (rise s) refl climb))

  rise_is : rise s ≡ pos (F s)
  rise_is = Z.difference_of_≤ values_≤

  e₀_is : e₀ s ≡ pos ((t s x + u s x) * D₀ s)
  e₀_is = rw (gap_is i.good.ends, h_is i, slope_natural s.left k₀)

  e₁_is : e₁ s ≡ pos ((t s x + u s x) * D₁ s)
  e₁_is = rw (gap_is i.good.ends, h_is i, slope_natural s.right k₁)

  A_is : A (gap s) (distance s x) (e₀ s) (g s) ≡ pos (left s x)
  A_is = rw (from_right i, from_left i, e₀_is, rise_is)

  B_is : B (gap s) (distance s x) (e₀ s) (g s) (e₁ s) ≡ pos (left s x + right s x)
  B_is = rw (from_right i, from_left i, e₀_is, e₁_is, rise_is) (ap pos (two_parts _ _ _ _ _))

  rises_of : Rises s x
  rises_of = record {
    values = values_≤;
    left_slope = slope_natural s.left k₀;
    right_slope = slope_natural s.right k₁;
    above_0 = Z.<_of_pos_< (rw B_is at (B_positive climbing (distance_in i)));
    value = rw (A_is, B_is, rise_is) at rising_closed;
  }

rises_inside : {s : Segment} {x : ℕ} → Inside (Good (plain rising)) s x → (s.right.value ≡ s.left.value → ⊥) → Rises s x
unfolding segment_test has_shape fits
rises_inside {s} i differ =
    elim (rise_kind (gap s) (v₀ s) (v₁ s) i.good.shaped) [
      | climbs f k₀ k₁ ↦ rises_of i f k₀ k₁
      | flat e _ ↦ absurd (differ (Z.pos_injective e))
    ]

flat_inside : {s : Segment} {x : ℕ} → Inside (Good (plain rising)) s x → s.right.value ≡ s.left.value →
    Closed (interpolant rising s x) (whole (v₀ s))
unfolding I.interpolant I.curve
flat_inside {s} {x} i e = flat_value (segment_normal s i.good.ends.ordered) (distance s x) (ap pos e)

-- ---- the reading

module _ {s : Segment} {x : ℕ} (i : Inside (Good (plain rising)) s x) where
  pub level_reads : s.right.value ≡ s.left.value → round (interpolant rising s x) ≡ pos s.left.value
  level_reads e = let c = flat_inside i e in rounding_at_whole round_rounding (v₀ s) c.proper c.same

  module _ (differ : s.right.value ≡ s.left.value → ⊥) where
    pub rises : Rises s x
    rises = rises_inside i differ

    pub rising_input : RisingInput (t s x) (u s x) s.left.value (F s) (D₀ s) (D₁ s)
    rising_input =
        let n = i.good.ends in
        record {
          distances = distances i n;
          value = n.left.value;
          rise = omega (arith, n.right.value);
          left_slope = slope_size n.left;
          right_slope = slope_size n.right;
          above_0 = rises.above_0;
        }

    pub rising_reads : round (interpolant rising s x)
        ≡ round (inner.rising_value (t s x) (u s x) s.left.value (F s) (D₀ s) (D₁ s))
    rising_reads =
        let c = rises.value in
        let b_pos : pos 0 <ℤ pos (left s x + right s x) = Z.pos_<_of_< rises.above_0 in
        round_rounding.alike c.proper (search propers)
        (Q.≈_trans (search propers) c.same (over_one (v₀ s) (pos (F s)) (pos (left s x)) (pos (left s x + right s x))))
