-- What the curve of a segment does, from the test of its shape, so that nothing above looks at a formula again.
--   Rise, rise_kind       the test of a rising segment, as facts: it climbs or is flat; left_slope_of_rise
--   Bend, bend_kind       the test of a convex segment, as facts: it is bent or straight
--   rising_of_bend        with a left slope of 0 or more it rises, and its right slope is 0 or more
--   rising_rises          the rising curve joins its ends and rises
--   convex_curve_slope    the slope of the convex curve, by the cases of the curve
--   convex_bends          the convex curve joins its ends and lies above its tangents
-- Assumes nothing.
use mathlib.Core.Path.{◌≡◌, refl}
use mathlib.Core.Bool.{cond, ◌&&◌}
use mathlib.Core.Logic.{inl, inr}
use mir.Facts.{and_yes, or_yes}
use lib.Dec.{T}
use lib.IntN.{ℤ, pos, ◌-ℤ◌, zero-*ℤ}
use lib.Signed.{◌<ℤ◌}
use Rattle.exact.specs.Fraction.{Fraction, Proper, ◌over◌, whole, ◌≈ℚ◌, ◌≤ℚ◌, ◌<ℚ◌, leℚ, ltℚ, eqℚ}
use Rattle.exact.proofs.Integer.{≡_of_difference}
use Rattle.exact.proofs.Tests.{T_true}
use Rattle.exact.proofs.Order as Z
use Rattle.exact.proofs.Fractions as Q
use Rattle.exact.proofs.Fractions.{NonNeg, propers}
use Rattle.model.specs.Interpolant as I
use Rattle.model.specs.Shape.{rises, bends, 0ℚ}
use Rattle.model.proofs.ClosedForm.{Closed, In, Normal, climbing_of_normal, bending_of_normal, convex_slope}
use Rattle.model.proofs.ClosedForm.{flat_value, rising_value, straight_value, bent_value}
use Rattle.model.proofs.Inside.{Joins, Rises, Bends, end_left, end_right}
use Rattle.model.proofs.Inside.{flat_rises, climbing_rises, straight_bends, bending_bends}

-- ---- the tests, as facts

pub data Rise (left right : ℤ) (d₀ d₁ : Fraction) : Type 0 where
  climbs : pos 0 <ℤ (right -ℤ left) → NonNeg d₀ → NonNeg d₁ → Rise left right d₀ d₁
  flat : right ≡ left → NonNeg d₀ → Rise left right d₀ d₁

pub data Bend (c d₀ d₁ : Fraction) : Type 0 where
  bent : d₀ <ℚ c → c <ℚ d₁ → Bend c d₀ d₁
  straight : d₀ ≈ℚ c → c ≈ℚ d₁ → Bend c d₀ d₁

pub rise_kind : (h left right : ℤ) {d₀ d₁ : Fraction} → T (rises h (right -ℤ left) d₀ d₁) → Rise left right d₀ d₁
unfolding rises whole
rise_kind h left right {d₀} {d₁} t =
    let F = whole (right -ℤ left) in
    elim (or_yes (ltℚ 0ℚ F && leℚ 0ℚ d₀ && leℚ 0ℚ d₁) (eqℚ F 0ℚ && eqℚ d₀ 0ℚ && eqℚ d₁ 0ℚ) t) [
      | inl u ↦
          let (v, k₁) = and_yes (ltℚ 0ℚ F && leℚ 0ℚ d₀) (leℚ 0ℚ d₁) u in
          let (f, k₀) = and_yes (ltℚ 0ℚ F) (leℚ 0ℚ d₀) v in
          climbs (Z.<_cancel (Z.nonneg_pos 1) (Q.<_of_ltℚ f).cross)
          (Q.nonneg_of_≤ (Q.≤_of_leℚ k₀)) (Q.nonneg_of_≤ (Q.≤_of_leℚ k₁))
      | inr u ↦
          let (v, k₁) = and_yes (eqℚ F 0ℚ && eqℚ d₀ 0ℚ) (eqℚ d₁ 0ℚ) u in
          let (f, k₀) = and_yes (eqℚ F 0ℚ) (eqℚ d₀ 0ℚ) v in
          flat (≡_of_difference right left (Z.≡_cancel (Z.positive_lit tt) (Q.≈_of_eqℚ f).cross))
          (Q.nonneg_of_≤ (Q.≤_of_≈ (Q.≈_sym (Q.≈_of_eqℚ k₀))))
    ]

pub left_slope_of_rise : {left right : ℤ} {d₀ d₁ : Fraction} → Rise left right d₀ d₁ → NonNeg d₀
left_slope_of_rise (climbs f k₀ k₁) = k₀
left_slope_of_rise (flat e k₀) = k₀

pub bend_kind : (h F : ℤ) {d₀ d₁ : Fraction} → T (bends h F d₀ d₁) → Bend (F over h) d₀ d₁
unfolding bends
bend_kind h F {d₀} {d₁} t =
    let c = F over h in
    elim (or_yes (ltℚ d₀ c && ltℚ c d₁) (eqℚ d₀ c && eqℚ c d₁) t) [
      | inl u ↦ let (k₀, k₁) = and_yes (ltℚ d₀ c) (ltℚ c d₁) u in bent (Q.<_of_ltℚ k₀) (Q.<_of_ltℚ k₁)
      | inr u ↦ let (k₀, k₁) = and_yes (eqℚ d₀ c) (eqℚ c d₁) u in straight (Q.≈_of_eqℚ k₀) (Q.≈_of_eqℚ k₁)
    ]

-- ---- convex, with a left slope of 0 or more

module _ (h F : ℤ) {d₀ d₁ : Fraction} where
  rises_of_climb : pos 0 <ℤ F → NonNeg d₀ → NonNeg d₁ → T (rises h F d₀ d₁)
  unfolding rises whole
  rises_of_climb up k₀ k₁ =
      let above : 0ℚ <ℚ whole F = record { cross = Z.<-* (Z.positive_lit tt) up } in
      rw (Q.ltℚ_true_of_< above, Q.leℚ_true_of_≤ (Q.≤_of_nonneg k₀), Q.leℚ_true_of_≤ (Q.≤_of_nonneg k₁)) tt

  rises_of_level : F ≡ pos 0 → d₀ ≈ℚ 0ℚ → d₁ ≈ℚ 0ℚ → T (rises h F d₀ d₁)
  unfolding rises whole leℚ ltℚ eqℚ
  rises_of_level e k₀ k₁ = rw (e, T_true _ (Q.eqℚ_of_≈ k₀), T_true _ (Q.eqℚ_of_≈ k₁)) tt

  module _ (p₀ : Proper d₀) (p₁ : Proper d₁) (h_positive : pos 0 <ℤ h) where
    pub rising_of_bend : Bend (F over h) d₀ d₁ → NonNeg d₀ → T (rises h F d₀ d₁) × NonNeg d₁
    unfolding ◌over◌ whole
    rising_of_bend (bent low high) k₀ =
        let up : pos 0 <ℤ F =
        Z.<_cancel (Z.≤_of_< p₀.above_0) (rw zero-*ℤ (Z.≤_<_trans (Z.nonneg_* k₀.sign (Z.≤_of_< h_positive)) low.cross)) in
        let right : pos 0 <ℤ d₁.num =
        Z.<_cancel (Z.≤_of_< h_positive)
        (rw zero-*ℤ (Z.≤_<_trans (Z.nonneg_* (Z.≤_of_< up) (Z.≤_of_< p₁.above_0)) high.cross)) in
        let k₁ : NonNeg d₁ = record { sign = Z.≤_of_< right } in
        (rises_of_climb up k₀ k₁, k₁)
    rising_of_bend (straight low high) k₀ =
        let p : Proper (F over h) = search propers in
        let k = Q.nonneg_≈ p p₀ (Q.≈_sym low) k₀ in
        let k₁ = Q.nonneg_≈ p₁ p (Q.≈_sym high) k in (
          elim (Z.≤_or_< F (pos 0)) [
            | inl down ↦
                let e : F ≡ pos 0 = Z.≤_antisym down k.sign in
                let level : F over h ≈ℚ 0ℚ = record { cross = rw (e, zero-*ℤ, zero-*ℤ) refl } in
                rises_of_level e (Q.≈_trans p low level) (Q.≈_trans p (Q.≈_sym high) level)
            | inr up ↦ rises_of_climb up k₀ k₁
          ],
          k₁,
        )

-- ---- a curve v does what its closed form x does

pub ≤_of_closed : {v w x y : Fraction} → Closed v x → Closed w y → Proper x → Proper y → x ≤ℚ y → v ≤ℚ w
≤_of_closed a b p q h =
    Q.≤_trans a.proper p b.proper (Q.≤_of_≈ a.same)
    (Q.≤_trans p q b.proper h (Q.≤_of_≈ (Q.≈_sym b.same)))

module _ {h left right : ℤ} {v x : ℤ → Fraction} (closed : (t : ℤ) → In h t → Closed (v t) (x t)) where
  joins_of_closed : Joins h left right x → Joins h left right v
  joins_of_closed j =
      record {
        h_positive = j.h_positive;
        proper = λ i. (closed _ i).proper;
        at_left = Q.≈_trans (j.proper (end_left j)) (closed _ (end_left j)).same j.at_left;
        at_right = Q.≈_trans (j.proper (end_right j)) (closed _ (end_right j)).same j.at_right;
      }

  rises_of_closed : Rises h left right x → Rises h left right v
  rises_of_closed r =
      record {
        joins = joins_of_closed r.joins;
        order = λ i i' le.
            ≤_of_closed (closed _ i) (closed _ i') (r.joins.proper i) (r.joins.proper i') (r.order i i' le);
      }

  bends_of_closed : {d₀ d₁ : Fraction} {σ : ℤ → Fraction} → Bends h left right d₀ d₁ x σ → Bends h left right d₀ d₁ v σ
  bends_of_closed b =
      record {
        joins = joins_of_closed b.joins;
        proper = b.proper;
        below = λ i i'.
            let k = closed _ i in
            let p = b.joins.proper i in
            let q = b.proper i in
            ≤_of_closed (search (propers, Q.≈-+, Q.≈_refl)) (closed _ i') (search propers) (b.joins.proper i')
            (b.below i i');
        at_left = b.at_left;
        at_right = b.at_right;
      }

-- ---- the curves

unfoldable pub convex_curve_slope : (h left right : ℤ) (d₀ d₁ : Fraction) (S a g b t : ℤ) → Fraction
convex_curve_slope h left right d₀ d₁ S a g b t =
    let c = (right -ℤ left) over h in
    cond (ltℚ d₀ c && ltℚ c d₁) (convex_slope h t S a g b) c

module _ {h left right : ℤ} {d₀ d₁ : Fraction} {S e₀ g e₁ : ℤ} (n : Normal h left right d₀ d₁ S e₀ g e₁) where
  pub rising_rises : Rise left right d₀ d₁ → Rises h left right (λ t. I.rising_curve h left right t d₀ d₁)
  rising_rises (flat e k₀) = rises_of_closed (λ t i. flat_value n t e) (flat_rises n.h_positive e)
  rising_rises (climbs F_positive k₀ k₁) =
      let c = climbing_of_normal n F_positive k₀ k₁ in
      rises_of_closed (λ t i. rising_value c i) (climbing_rises c)

  pub convex_bends :
      Bend ((right -ℤ left) over h) d₀ d₁ →
      Bends h left right d₀ d₁ (λ t. I.convex_curve h left right t d₀ d₁)
      (λ t. convex_curve_slope h left right d₀ d₁ S (e₁ -ℤ g) g (g -ℤ e₀) t)
  unfolding convex_curve_slope
  convex_bends (straight k₀ k₁) =
      rw (Q.ltℚ_false_of_≤ (Q.≤_of_≈ (Q.≈_sym k₀)))
      (bends_of_closed (λ t i. straight_value n t k₀) (straight_bends n.h_positive k₀ k₁))
  convex_bends (bent low high) =
      let c = bending_of_normal n low high in
      rw (Q.ltℚ_true_of_< low, Q.ltℚ_true_of_< high) (bends_of_closed (λ t i. bent_value c i) (bending_bends c))
