-- The reading of a convex segment, in the natural numbers that the code computes with.
--   Bends, bends_inside   the end slopes' distances from the chord are natural numbers
--   bent_input            the sizes of an area's figures
--   sum_input, near_input   what `hundredths` asks
--   bent_reads            hundredths above the left value, and what is left of one more, are the value; near_reads, hundredths
--                         less than one off, where that decides
-- Assumes nothing.
use mathlib.Core.Path.{◌≡◌, sym, ◌∙◌, ap}
use mathlib.Core.List.{[], ◌∷◌}
use Prim.Native.Nat.{ℕ, ◌+◌, ◌*◌, ◌≤◌, ◌<◌}
use native.Mathlib.Omega.{arith}
use lib.Dec.{lit<}
use lib.IntN.{ℤ, pos, nat_abs, ◌+ℤ◌, ◌-ℤ◌, ◌*ℤ◌, *ℤ_comm, +ℤ_invr}
use lib.Signed.{◌<ℤ◌}
use Rattle.exact.specs.Fraction.{Fraction, ◌over◌, whole, ◌+ℚ◌, ◌-ℚ◌, ◌*ℚ◌, ◌≈ℚ◌, ◌<ℚ◌}
use Rattle.exact.specs.Rounding.{round}
use Rattle.exact.specs.Inner.{sticky}
use Rattle.exact.proofs.Ring.{ring, terms}
use Rattle.exact.proofs.Order as Z
use Rattle.exact.proofs.Order.{signs}
use Rattle.exact.proofs.Field.{field, ratios}
use Rattle.exact.proofs.Fractions as Q
use Rattle.exact.proofs.Fractions.{propers, positivity}
use Rattle.exact.proofs.Rounding.{round_rounding}
use Rattle.exact.proofs.Mixed.{round_sticky}
use Rattle.model.specs.Points.{gradient, Segment, convex, plain}
use Rattle.model.specs.Interpolant as I
use Rattle.model.specs.Interpolant.{interpolant}
use Rattle.model.specs.Shape.{fits, has_shape, segment_test}
use Rattle.model.specs.Inner.{Good, Inside}
use Rattle.model.proofs.ClosedForm.{Closed, congruence, Bending, W, W_positive, convex_form}
use Rattle.model.proofs.ClosedForm.{bending_of_normal, bent_value, straight_value}
use Rattle.model.proofs.Curves.{bent, straight, bend_kind}
use Rattle.model.proofs.Segments.{gap, rise, distance, v₀, v₁, d₀, d₁, S, g, e₀, e₁, a, b}
use Rattle.model.proofs.Segments.{segment_normal, gap_positive, distance_in}
use Rattle.point.proofs.Figures.{slope_size}
use Rattle.shape.specs.Inner.{over_most}
use Rattle.shape.proofs.Figures.{h, gap_is, a_size, b_size}
use Rattle.segment.specs.Inner.{BentAt, BentInput, Excess, Large, Around, SumInput, hundredths_of, About}
use Rattle.segment.proofs.Distances.{t, u, from_left, from_right, h_is, distances}
use Rattle.segment.proofs.Sizes.{large_positive, around_most, excess_most}

module _ (s : Segment) where
  abbrev above : ℕ
  above = nat_abs (a s)

  abbrev below : ℕ
  below = nat_abs (b s)

  below_zero : d₀ s ≈ℚ rise s over gap s → b s ≡ pos 0
  unfolding gradient ◌over◌
  below_zero k = rw (*ℤ_comm (gap s) s.left.slope, k.cross, *ℤ_comm (rise s) (pos 100)) (+ℤ_invr (g s))

  above_zero : rise s over gap s ≈ℚ d₁ s → a s ≡ pos 0
  unfolding gradient ◌over◌
  above_zero k = rw (*ℤ_comm (pos 100) (rise s), k.cross, *ℤ_comm s.right.slope (gap s)) (+ℤ_invr (e₁ s))

  -- q hundredths above the left tangent, and what is left of one more
  abbrev reading_of : (x q r : ℕ) → ℤ
  reading_of x q r = round ((pos 2 *ℤ hundredths_of (v₀ s) s.left.slope (t s x) q +ℤ pos (sticky r)) over pos 200)

pub record Bends (s : Segment) (x : ℕ) : Type 0 where
  pub above_is : a s ≡ pos (above s)
  pub below_is : b s ≡ pos (below s)
  pub reads : {q r : ℕ} → Excess (t s x) (u s x) (h s) (above s) (below s) q r →
      round (interpolant convex s x) ≡ reading_of s x q r
  -- from a number less than one off, where that decides
  pub nearly : {m : ℕ} → Around (below s * t s x * (below s * t s x)) ((above s * u s x + below s * t s x) * h s) m →
      (k : ℤ) → ((v : Fraction) → About (hundredths_of (v₀ s) s.left.slope (t s x) m) v → round v ≡ k) →
      round (interpolant convex s x) ≡ k

-- ---- the value as one fraction

straight_over : (l d t : ℤ) →
    whole l +ℚ (d over pos 100) *ℚ whole t ≈ℚ (pos 2 *ℤ (pos 100 *ℤ l +ℤ d *ℤ t +ℤ pos 0) +ℤ pos 0) over pos 200
straight_over l d t = field (l ∷ d ∷ t ∷ []) (search ratios depth 20 fits 9999) tt

-- w w = q (W h) + r
bent_over : (l d t h W q r : ℤ) →
    whole l +ℚ ((h *ℤ d *ℤ t) over (pos 100 *ℤ h)) +ℚ ((q *ℤ (W *ℤ h) +ℤ r) over (pos 100 *ℤ h *ℤ W))
    ≈ℚ ((pos 100 *ℤ l +ℤ d *ℤ t +ℤ q) *ℤ (W *ℤ h) +ℤ r) over (W *ℤ h *ℤ pos 100)
bent_over l d t h W q r = field (l ∷ d ∷ t ∷ q ∷ r ∷ h ∷ W ∷ []) (search ratios depth 20 fits 9999) tt

-- from m hundredths less one, and to m hundredths and one
module _ (l d t h W n m : ℤ) where
  abbrev value : Fraction
  value = whole l +ℚ ((h *ℤ d *ℤ t) over (pos 100 *ℤ h)) +ℚ (n over (pos 100 *ℤ h *ℤ W))

  above_low : value -ℚ ((pos 100 *ℤ l +ℤ d *ℤ t +ℤ m -ℤ pos 1) over pos 100)
      ≈ℚ (n +ℤ W *ℤ h -ℤ m *ℤ (W *ℤ h)) over (W *ℤ h *ℤ pos 100)
  above_low = field (l ∷ d ∷ t ∷ n ∷ m ∷ h ∷ W ∷ []) (search ratios depth 20 fits 9999) tt

  below_high : ((pos 100 *ℤ l +ℤ d *ℤ t +ℤ m +ℤ pos 1) over pos 100) -ℚ value
      ≈ℚ ((m +ℤ pos 1) *ℤ (W *ℤ h) -ℤ n) over (W *ℤ h *ℤ pos 100)
  below_high = field (l ∷ d ∷ t ∷ n ∷ m ∷ h ∷ W ∷ []) (search ratios depth 20 fits 9999) tt

module _ {s : Segment} {x : ℕ} (i : Inside (Good (plain convex)) s x) where
  module _ (low : d₀ s ≈ℚ rise s over gap s) (high : rise s over gap s ≈ℚ d₁ s) where
    straight_closed : Closed (interpolant convex s x)
        (whole (v₀ s) +ℚ (rise s over gap s) *ℚ whole (distance s x))
    unfolding I.interpolant I.curve
    straight_closed = straight_value (segment_normal s i.good.ends.ordered) (distance s x) low

    along_slope : Closed (interpolant convex s x)
        (whole (v₀ s) +ℚ (s.left.slope over pos 100) *ℚ whole (pos (t s x)))
    unfolding gradient
    along_slope =
        let hp = gap_positive s i.good.ends.ordered in
        let e = Q.≈_sym low in
        record {
          proper = straight_closed.proper;
          same = Q.≈_trans (search propers) (rw (from_left i) at straight_closed.same) (search congruence);
        }

    straight_bends : Bends s x
    straight_bends = record {
      above_is = rw (above_zero s high);
      below_is = rw (below_zero s low);
      reads = λ e.
          let none = e.none (rw (ap nat_abs (below_zero s low)) (omega arith)) in
          rw (none.0, none.1)
          (round_rounding.alike along_slope.proper (search (propers, signs))
          (Q.≈_trans (search (propers, signs)) along_slope.same (straight_over (v₀ s) s.left.slope (pos (t s x)))));
      nearly = λ {m} e k reads.
          absurd (let z = rw (ap nat_abs (above_zero s high), ap nat_abs (below_zero s low)) at e.high in omega (arith, z));
    }

  module _ (low : d₀ s <ℚ rise s over gap s) (high : rise s over gap s <ℚ d₁ s) where
    bending : Bending (gap s) (v₀ s) (v₁ s) (d₀ s) (d₁ s) (S s) (a s) (g s) (b s)
    bending = bending_of_normal (segment_normal s i.good.ends.ordered) low high

    bent_closed : Closed (interpolant convex s x)
        (convex_form (gap s) (v₀ s) (distance s x) (S s) (a s) (g s) (b s))
    unfolding I.interpolant I.curve
    bent_closed = bent_value bending (distance_in i)

    above_is : a s ≡ pos (above s)
    above_is = Z.natural_of_nonneg (Z.≤_of_< bending.a_positive)

    below_is : b s ≡ pos (below s)
    below_is = Z.natural_of_nonneg (Z.≤_of_< bending.b_positive)

    abbrev w : ℕ
    w = below s * t s x

    abbrev divisor : ℕ
    divisor = above s * u s x + w

    W_is : W (gap s) (distance s x) (a s) (b s) ≡ pos divisor
    W_is = rw (from_right i, from_left i, above_is, below_is)

    left_is : g s -ℤ b s ≡ pos (h s) *ℤ s.left.slope
    left_is = rw (← gap_is i.good.ends) (ring (g s ∷ e₀ s ∷ []) (search terms depth 20 fits 9999) tt)

    S_is : S s ≡ pos 100 *ℤ pos (h s)
    S_is = rw (gap_is i.good.ends)

    over_tangent : Closed (interpolant convex s x)
        (whole (v₀ s) +ℚ ((pos (h s) *ℤ s.left.slope *ℤ pos (t s x)) over (pos 100 *ℤ pos (h s)))
        +ℚ (pos (w * w) over (pos 100 *ℤ pos (h s) *ℤ pos divisor)))
    over_tangent = rw (W_is, left_is, S_is, from_left i, below_is) at bent_closed

    divisor_positive : 0 < divisor
    divisor_positive = Z.<_of_pos_< (rw W_is at (W_positive bending (distance_in i)))

    bent_bends : Bends s x
    bent_bends =
        let k : 0 < h s = (let o = i.good.ends.ordered in omega arith) in
        let h_pos : pos 0 <ℤ pos (h s) = Z.pos_<_of_< k in
        let W_pos : pos 0 <ℤ pos divisor = Z.pos_<_of_< divisor_positive in
        record {
          above_is = above_is;
          below_is = below_is;
          reads = λ {q} {r} e.
              let d = e.divided divisor_positive in
              let v = rw d.product at over_tangent in
              round_rounding.alike v.proper (search (propers, signs))
              (Q.≈_trans (search (propers, signs) depth 9) v.same
              (bent_over (v₀ s) s.left.slope (pos (t s x)) (pos (h s)) (pos divisor) (pos q) (pos r)))
              ∙ round_sticky round_rounding (hundredths_of (v₀ s) s.left.slope (t s x) q) r (divisor * h s) 50
              d.rest (lit< tt);
          nearly = λ {m} e k reads.
              let l = Z.pos_<_of_< e.low in
              let g = Z.pos_<_of_< e.high in
              round_rounding.alike over_tangent.proper (search (propers, signs) depth 9) over_tangent.same
              ∙ reads _ (record {
                proper = search (propers, signs) depth 9;
                low = Q.<_by (search positivity depth 9) (search positivity depth 9) _ (search positivity depth 9)
                    (above_low (v₀ s) s.left.slope (pos (t s x)) (pos (h s)) (pos divisor) (pos (w * w)) (pos m))
                    (Q.positive_over _ _ (Z.positive_difference l));
                high = Q.<_by (search positivity depth 9) (search positivity depth 9) _ (search positivity depth 9)
                    (below_high (v₀ s) s.left.slope (pos (t s x)) (pos (h s)) (pos divisor) (pos (w * w)) (pos m))
                    (Q.positive_over _ _ (Z.positive_difference g));
              });
        }

pub bends_inside : {s : Segment} {x : ℕ} → Inside (Good (plain convex)) s x → Bends s x
unfolding segment_test has_shape fits
bends_inside {s} i =
    elim (bend_kind (gap s) (rise s) i.good.shaped) [
      | bent low high ↦ bent_bends i low high
      | straight low high ↦ straight_bends i low high
    ]

-- ---- of the figures that the code has

module _ {s : Segment} {x t u h a b : ℕ} (i : Inside (Good (plain convex)) s x) (k : BentAt s x t u h a b) where
  a_is : a ≡ above s
  a_is = Z.pos_injective (k.a_is ∙ (bends_inside i).above_is)

  b_is : b ≡ below s
  b_is = Z.pos_injective (k.b_is ∙ (bends_inside i).below_is)

  pub bent_input : BentInput t u h a b
  bent_input =
      let n = i.good.ends in
      record {
        distances = rw (k.t_is, k.u_is) (distances i n);
        sum = rw (k.t_is, k.u_is, k.h_is) (h_is i);
        above = omega (arith, ap nat_abs k.a_is, a_size n);
        below = omega (arith, ap nat_abs k.b_is, b_size n);
      }

  -- so many hundredths above the left tangent
  sum_of : {m : ℕ} → m ≤ 2 * over_most + 1 → SumInput s.left.value s.left.slope t m
  sum_of most =
      let n = i.good.ends in
      record {
        value = n.left.value;
        steep = slope_size n.left;
        near = omega (arith, bent_input.distances.most);
        size = most;
      }

  -- by leading bits
  pub near_input : {m : ℕ} → Large t h b → Around (b * t * (b * t)) ((a * u + b * t) * h) m →
      SumInput s.left.value s.left.slope t m
  near_input large e = sum_of (around_most bent_input e (omega (arith, large_positive bent_input large)))

  pub near_reads : {m : ℕ} → Around (b * t * (b * t)) ((a * u + b * t) * h) m →
      (k : ℤ) → ((v : Fraction) → About (hundredths_of (pos s.left.value) s.left.slope t m) v → round v ≡ k) →
      round (interpolant convex s x) ≡ k
  near_reads {m} e n reads =
      (bends_inside i).nearly (rw (k.t_is, k.u_is, k.h_is, a_is, b_is) at e) n (λ v about. reads v (rw k.t_is about))

  module _ {q r : ℕ} (e : Excess t u h a b q r) where
    pub sum_input : SumInput s.left.value s.left.slope t q
    sum_input = let m = excess_most bent_input e in sum_of (omega arith)

    pub bent_reads :
        round ((pos 2 *ℤ hundredths_of (pos s.left.value) s.left.slope t q +ℤ pos (sticky r)) over pos 200)
        ≡ round (interpolant convex s x)
    bent_reads =
        rw k.t_is (sym ((bends_inside i).reads (rw (k.t_is, k.u_is, k.h_is, a_is, b_is) at e)))
