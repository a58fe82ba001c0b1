-- The exact values of a segment are between least_factor and most_factor of its rule. A rising curve is between its ends, at most
-- value_most. A convex curve is not above its larger end, and not below its left tangent: that falls by at most slope_most / 100
-- for each of at most gap_most tenths. Their mirrors are 200,000 less that.
--   Between, value_range       a fraction between two whole numbers; the exact value; rising_convex_range, on a convex segment
--                              that rises too
--   Within, reading_range      a whole number, so; its rounding, by any rounding that keeps order and whole numbers
--   least_of_all, most_of_all  from −200,000 to 400,000, whichever rule
-- Assumes nothing.
use mathlib.Core.Path.{◌≡◌, refl}
use mathlib.Core.List.{[], ◌∷◌}
use mathlib.Core.Logic.{inl, inr}
use Prim.Native.Nat.{ℕ}
use lib.IntN.{ℤ, pos, neg_ℤ, ◌+ℤ◌, ◌-ℤ◌, ◌*ℤ◌}
use lib.Signed.{◌≤ℤ◌}
use Rattle.exact.specs.Fraction.{Fraction, Proper, ◌over◌, whole, ◌+ℚ◌, ◌-ℚ◌, ◌*ℚ◌, ◌≈ℚ◌, ◌≤ℚ◌}
use Rattle.exact.specs.Rounding.{Rounding}
use Rattle.exact.proofs.Ring.{ring, terms}
use Rattle.exact.proofs.Order as Z
use Rattle.exact.proofs.Field.{field, ratios, ◌∷ℚ◌}
use Rattle.exact.proofs.Fractions as Q
use Rattle.exact.proofs.Fractions.{NonNeg, propers, positivity}
use Rattle.model.specs.Points.{gap_most, value_most, slope_most, gradient, Segment, Shape, rising, convex}
use Rattle.model.specs.Points.{mirror_segment, Rule, plain, mirrored}
use Rattle.model.specs.Interpolant.{interpolant, exact_curve}
use Rattle.model.specs.Shape.{0ℚ}
use Rattle.model.specs.Laws.{least_factor, most_factor}
use Rattle.model.specs.Inner.{Neighbours, Good, Inside}
use Rattle.model.proofs.ClosedForm.{In}
use Rattle.model.proofs.Inside.{Rises, Bends, end_left, end_right}
use Rattle.model.proofs.Segments.{gap, proper_gradient, segment_rises, segment_bends, left_slope_rises, distance_in}
use Rattle.model.proofs.Segments.{interpolant_proper}
use Rattle.model.proofs.Mirror.{mirror_inside}

pub record Between (least most : ℤ) (v : Fraction) : Type 0 where
  pub low : whole least ≤ℚ v
  pub high : v ≤ℚ whole most

-- ---- fractions

-- a bound of the whole number e that v is, for what is on the other side of v
module _ {v w : Fraction} {e k : ℤ} (p : Proper v) (q : Proper w) (is : v ≈ℚ whole e) where
  ≤_of_end : w ≤ℚ v → e ≤ℤ k → w ≤ℚ whole k
  ≤_of_end h l =
      Q.≤_trans q p (search propers) h
      (Q.≤_trans p (search propers) (search propers) (Q.≤_of_≈ is) (Q.whole_≤_of_≤ _ _ l))

  ≥_of_end : v ≤ℚ w → k ≤ℤ e → whole k ≤ℚ w
  ≥_of_end h l =
      Q.≤_trans (search propers) p q
      (Q.≤_trans (search propers) (search propers) p (Q.whole_≤_of_≤ _ _ l) (Q.≤_of_≈ (Q.≈_sym is))) h

pub ≤_of_sum : {v w v' : Fraction} → Proper v → Proper w → Proper v' → v +ℚ w ≤ℚ v' → NonNeg w → v ≤ℚ v'
≤_of_sum {v} {w} {v'} p q p' h n =
    Q.≤_by p p' ((v' -ℚ (v +ℚ w)) +ℚ w) (search propers)
    (field (v ∷ℚ w ∷ℚ v' ∷ℚ []) (search ratios depth 20 fits 9999) tt)
    (search positivity)

backwards : (σ : Fraction) (t : ℤ) → σ *ℚ whole (pos 0 -ℤ t) ≈ℚ (0ℚ -ℚ σ) *ℚ whole t
backwards σ t = field (σ ∷ℚ t ∷ []) (search ratios depth 20 fits 9999) tt

-- ---- curves

module _ {h left right : ℤ} {v : ℤ → Fraction} (r : Rises h left right v) {t : ℤ} (i : In h t) where
  rising_low : {k : ℤ} → k ≤ℤ left → whole k ≤ℚ v t
  rising_low l =
      let j = end_left r.joins in
      ≥_of_end (r.joins.proper j) (r.joins.proper i) r.joins.at_left (r.order j i i.low) l

  rising_high : {k : ℤ} → right ≤ℤ k → v t ≤ℚ whole k
  rising_high l =
      let j = end_right r.joins in
      let last = Z.≤_by (h -ℤ t) refl i.high in
      ≤_of_end (r.joins.proper j) (r.joins.proper i) r.joins.at_right (r.order i j last) l

module _ {h left right : ℤ} {d₀ d₁ : Fraction} {v σ : ℤ → Fraction}
    (b : Bends h left right d₀ d₁ v σ) {t : ℤ} (i : In h t) where
  -- to the end on the side where the tangent does not fall
  convex_high : {k : ℤ} → left ≤ℤ k → right ≤ℤ k → v t ≤ℚ whole k
  convex_high l₀ l₁ =
      let j₀ = end_left b.joins in
      let j₁ = end_right b.joins in
      let p = b.joins.proper i in
      let p₀ = b.joins.proper j₀ in
      let p₁ = b.joins.proper j₁ in
      let q = b.proper i in
      elim (Q.≤_or_< 0ℚ (σ t)) [
        | inl s ↦
            let up = Q.nonneg_of_≤ s in
            ≤_of_end p₁ p b.joins.at_right (≤_of_sum p (search propers) p₁ (b.below i j₁) (search positivity)) l₁
        | inr s ↦
            let up = Q.nonneg_≈ (search propers) (search propers) (backwards (σ t) t) (search positivity) in
            ≤_of_end p₀ p b.joins.at_left (≤_of_sum p (search propers) p₀ (b.below i j₀) up) l₀
      ]

  not_below_tangent : Proper d₀ → whole left +ℚ d₀ *ℚ whole (t -ℤ pos 0) ≤ℚ v t
  not_below_tangent q =
      let j = end_left b.joins in
      let p = b.joins.proper j in
      let q' = b.proper j in
      Q.≤_trans (search propers) (search propers) (b.joins.proper i)
      (Q.≤_of_≈ (Q.≈_sym (Q.≈-+ b.joins.at_left (Q.≈-* b.at_left (Q.≈_refl _))))) (b.below j i)

-- how far the left tangent is above −200,000
above_lowest :
    (left D h t : ℤ) →
    whole left +ℚ D over pos 100 *ℚ whole (t -ℤ pos 0) -ℚ whole (neg_ℤ (pos 200000))
    ≈ℚ whole left
    +ℚ ((D -ℤ neg_ℤ (pos slope_most)) *ℤ t +ℤ pos slope_most *ℤ ((pos gap_most -ℤ h) +ℤ (h -ℤ t))) over pos 100
above_lowest left D h t = field (left ∷ D ∷ h ∷ t ∷ []) (search ratios depth 20 fits 9999) tt

tangent_low :
    {left D h t : ℤ} → pos 0 ≤ℤ left → neg_ℤ (pos slope_most) ≤ℤ D → h ≤ℤ pos gap_most → In h t →
    whole (neg_ℤ (pos 200000)) ≤ℚ whole left +ℚ D over pos 100 *ℚ whole (t -ℤ pos 0)
tangent_low {left} {D} {h} {t} l m n i =
    Q.≤_by (search positivity) (search positivity) _ (search positivity) (above_lowest left D h t)
    (search positivity depth 9)

-- ---- segments

gap_high : (s : Segment) → Neighbours s → gap s ≤ℤ pos gap_most
gap_high s k = Z.≤_by _ spare (Z.nonneg_difference (Z.pos_≤_of_≤ k.near))
  where
    spare : pos gap_most -ℤ gap s ≡ pos s.left.area +ℤ pos gap_most -ℤ pos s.right.area
    spare = ring (pos s.left.area ∷ pos s.right.area ∷ []) (search terms depth 20 fits 9999) tt

plain_range : {shape : Shape} {s : Segment} {x : ℕ} →
    Inside (Good (plain shape)) s x → Between (least_factor (plain shape)) (pos value_most) (interpolant shape s x)
unfolding interpolant gradient
plain_range {shape = rising} {s = s} r =
    let rises = segment_rises s r.good in
    record {
      low = rising_low rises (distance_in r) (Z.nonneg_pos _);
      high = rising_high rises (distance_in r) (Z.pos_≤_of_≤ r.good.ends.right.value);
    }
plain_range {shape = convex} {s = s} r =
    let k = r.good.ends in
    let i = distance_in r in
    let bends = segment_bends s r.good in
    record {
      low = Q.≤_trans (search propers) (search positivity) (bends.joins.proper i)
          (tangent_low (Z.nonneg_pos _) k.left.slope_low (gap_high s k) i)
          (not_below_tangent bends i (search positivity));
      high = convex_high bends i (Z.pos_≤_of_≤ k.left.value) (Z.pos_≤_of_≤ k.right.value);
    }

-- a convex segment that rises too is not below 0: its left tangent is not
pub rising_convex_range : {s : Segment} {x : ℕ} → Inside (Good (plain convex)) s x → Good (plain rising) s →
    Between (pos 0) (pos value_most) (interpolant convex s x)
unfolding interpolant
rising_convex_range {s} {x} r g =
    let i = distance_in r in
    let bends = segment_bends s r.good in
    let p = proper_gradient s.left in
    let up = left_slope_rises s g in
    let right_of_0 = Z.nonneg_difference i.low in
    record {
      low = Q.≤_trans (search propers) (search propers) (bends.joins.proper i)
          (Q.≤_of_nonneg (search (positivity, Z.nonneg_pos))) (not_below_tangent bends i p);
      high = (plain_range r).high;
    }

-- ---- and their mirrors

most_is : (shape : Shape) → most_factor (mirrored shape) ≡ pos value_most -ℤ least_factor (plain shape)
most_is rising = refl
most_is convex = refl

pub value_range : {rule : Rule} {s : Segment} {x : ℕ} → Inside (Good rule) s x →
    Between (least_factor rule) (most_factor rule) (exact_curve rule s x)
unfolding exact_curve
value_range {rule = plain shape} i = plain_range i
value_range {rule = mirrored shape} {s = s} {x = x} i =
    let r = plain_range (mirror_inside i) in
    let p = interpolant_proper (mirror_inside i) in
    let v = interpolant shape (mirror_segment s) x in
    let least = least_factor (plain shape) in
    record {
      low = Q.≤_by (search propers) (search propers) (whole (pos value_most) -ℚ v) (search propers)
          (field (v ∷ℚ []) (search ratios depth 20 fits 9999) tt) (Q.nonneg_difference r.high);
      high = rw (most_is shape)
          (Q.≤_by (search propers) (search propers) (v -ℚ whole least) (search propers)
          (field (v ∷ℚ least ∷ []) (search ratios depth 20 fits 9999) tt) (Q.nonneg_difference r.low));
    }

-- ---- readings

pub record Within (least most k : ℤ) : Type 0 where
  pub low : least ≤ℤ k
  pub high : k ≤ℤ most

pub reading_range : {rnd : Fraction → ℤ} {least most : ℤ} → Rounding rnd →
    (v : Fraction) → Proper v → Between least most v → Within least most (rnd v)
reading_range k v p r =
    record {
      low = rw k.keeps_whole at (k.keeps_order _ v (search propers) p r.low);
      high = rw k.keeps_whole at (k.keeps_order v _ p (search propers) r.high);
    }

pub least_of_all : (rule : Rule) → neg_ℤ (pos 200000) ≤ℤ least_factor rule
least_of_all (plain rising) = record { le = tt }
least_of_all (plain convex) = record { le = tt }
least_of_all (mirrored shape) = record { le = tt }

pub most_of_all : (rule : Rule) → most_factor rule ≤ℤ pos 400000
most_of_all (plain shape) = record { le = tt }
most_of_all (mirrored rising) = record { le = tt }
most_of_all (mirrored convex) = record { le = tt }
