-- What the closed forms do between the ends of a segment of length h, each order by one certificate of the field tactic.
--   Joins          a curve v has denominators above 0, and the values left and right at its ends (end_left, end_right)
--   Rises          it joins its ends, and rises
--   Bends          it joins its ends and lies above its tangents, whose slope σ is d₀ at the left end and d₁ at the right end
--   flat_rises, climbing_rises, straight_bends, bending_bends   the closed form in each case of the curve
-- Assumes nothing.
use mathlib.Core.Path.{◌≡◌, sym, ap}
use mathlib.Core.List.{[], ◌∷◌}
use lib.IntN.{ℤ, pos, ◌+ℤ◌, ◌-ℤ◌, ◌*ℤ◌}
use lib.Signed.{◌≤ℤ◌, ◌<ℤ◌, ≤ℤ_refl}
use Rattle.exact.specs.Fraction.{Fraction, Proper, ◌over◌, whole, ◌+ℚ◌, ◌-ℚ◌, ◌*ℚ◌, ◌≈ℚ◌, ◌≤ℚ◌}
use Rattle.exact.proofs.Order.{signs}
use Rattle.exact.proofs.Field.{field, ratios}
use Rattle.exact.proofs.Fractions as Q
use Rattle.exact.proofs.Fractions.{propers, positivity}
use Rattle.model.proofs.ClosedForm.{In, B, W, rising_form, convex_form, convex_slope}
use Rattle.model.proofs.ClosedForm.{Climbing, Bending, right_≈, B_positive, W_positive}

pub record Joins (h left right : ℤ) (v : ℤ → Fraction) : Type 0 where
  pub h_positive : pos 0 <ℤ h
  pub proper : {t : ℤ} → In h t → Proper (v t)
  pub at_left : v (pos 0) ≈ℚ whole left
  pub at_right : v h ≈ℚ whole right

pub record Rises (h left right : ℤ) (v : ℤ → Fraction) : Type 0 where
  pub joins : Joins h left right v
  pub order : {t t' : ℤ} → In h t → In h t' → t ≤ℤ t' → v t ≤ℚ v t'

pub record Bends (h left right : ℤ) (d₀ d₁ : Fraction) (v σ : ℤ → Fraction) : Type 0 where
  pub joins : Joins h left right v
  pub proper : {t : ℤ} → In h t → Proper (σ t)
  pub below : {t t' : ℤ} → In h t → In h t' → v t +ℚ σ t *ℚ whole (t' -ℤ t) ≤ℚ v t'
  pub at_left : σ (pos 0) ≈ℚ d₀
  pub at_right : σ h ≈ℚ d₁

-- the ends
module _ {h left right : ℤ} {v : ℤ → Fraction} (j : Joins h left right v) where
  pub end_left : In h (pos 0)
  end_left = search signs

  pub end_right : In h h
  end_right = search (signs, ≤ℤ_refl)

-- ---- rising

pub flat_rises : {h left right : ℤ} → pos 0 <ℤ h → right ≡ left → Rises h left right (λ t. whole left)
flat_rises h_positive e =
    record {
      joins = record {
        h_positive = h_positive;
        proper = λ i. search propers;
        at_left = Q.≈_refl _;
        at_right = Q.≈_of_≡ (ap whole (sym e));
      };
      order = λ i i' k. Q.≤_of_≈ (Q.≈_refl _);
    }

module _ {h left right : ℤ} {d₀ d₁ : Fraction} {S e₀ g e₁ : ℤ} (c : Climbing h left right d₀ d₁ S e₀ g e₁) where
  abbrev rising_at : ℤ → Fraction
  rising_at t = rising_form h left right t e₀ g e₁

  rising_at_proper : {t : ℤ} → In h t → Proper (rising_at t)
  rising_at_proper i = search (propers, B_positive c i)

  module _ {t t' : ℤ} (i : In h t) (i' : In h t') where
    -- how much the curve rises from t to t': every factor is above 0 or not negative
    climbed :
        rising_at t' -ℚ rising_at t
        ≈ℚ ((right -ℤ left) *ℤ (h *ℤ (t' -ℤ t))
        *ℤ (g *ℤ (e₁ *ℤ (t *ℤ t') +ℤ g *ℤ (t' *ℤ (h -ℤ t) +ℤ t *ℤ (h -ℤ t')) +ℤ e₀ *ℤ ((h -ℤ t) *ℤ (h -ℤ t')))))
        over (B h t e₀ g e₁ *ℤ B h t' e₀ g e₁)
    climbed = field (e₀ ∷ g ∷ e₁ ∷ right ∷ left ∷ t ∷ t' ∷ h ∷ []) (search ratios depth 20 fits 9999) tt

    rising_at_order : t ≤ℤ t' → rising_at t ≤ℚ rising_at t'
    rising_at_order le =
        let b = B_positive c i in
        let b' = B_positive c i' in
        Q.≤_by (rising_at_proper i) (rising_at_proper i') _ (search positivity) climbed
        (Q.nonneg_over _ _ (search signs depth 12 fits 9999))

  pub climbing_rises : Rises h left right rising_at
  climbing_rises =
      record {
        joins = record {
          h_positive = c.normal.h_positive;
          proper = rising_at_proper;
          at_left = field (e₀ ∷ g ∷ e₁ ∷ right ∷ left ∷ h ∷ []) (search ratios depth 20 fits 9999) tt;
          at_right = field (e₀ ∷ g ∷ e₁ ∷ right ∷ left ∷ h ∷ []) (search ratios depth 20 fits 9999) tt;
        };
        order = rising_at_order;
      }

-- ---- convex

pub straight_bends : {h left right : ℤ} {d₀ d₁ : Fraction} →
    pos 0 <ℤ h → d₀ ≈ℚ (right -ℤ left) over h → (right -ℤ left) over h ≈ℚ d₁ →
    Bends h left right d₀ d₁ (λ t. whole left +ℚ (right -ℤ left) over h *ℚ whole t) (λ t. (right -ℤ left) over h)
straight_bends {h} {left} {right} h_positive e₀ e₁ =
    record {
      joins = record {
        h_positive = h_positive;
        proper = λ i. search propers;
        at_left = field (left ∷ right ∷ h ∷ []) (search ratios depth 20 fits 9999) tt;
        at_right = field (left ∷ right ∷ h ∷ []) (search ratios depth 20 fits 9999) tt;
      };
      proper = λ i. search propers;
      below = λ {t} {t'} i i'. Q.≤_of_≈ (field (left ∷ right ∷ h ∷ t ∷ t' ∷ []) (search ratios depth 20 fits 9999) tt);
      at_left = Q.≈_sym e₀;
      at_right = e₁;
    }

module _ {h left right : ℤ} {d₀ d₁ : Fraction} {S a g b : ℤ} (c : Bending h left right d₀ d₁ S a g b) where
  abbrev convex_at : ℤ → Fraction
  convex_at t = convex_form h left t S a g b

  abbrev convex_slope_at : ℤ → Fraction
  convex_slope_at t = convex_slope h t S a g b

  convex_at_proper : {t : ℤ} → In h t → Proper (convex_at t)
  convex_at_proper i = let w = W_positive c i in search (propers, signs) depth 9

  convex_slope_at_proper : {t : ℤ} → In h t → Proper (convex_slope_at t)
  convex_slope_at_proper i = let w = W_positive c i in search (propers, signs) depth 9

  module _ {t t' : ℤ} (i : In h t) (i' : In h t') where
    -- how far the curve at t' is above the tangent at t: a square over what is above 0
    abbrev root : ℤ
    root = b *ℤ (t' *ℤ W h t a b -ℤ t *ℤ W h t' a b)

    above_tangent :
        convex_at t' -ℚ (convex_at t +ℚ convex_slope_at t *ℚ whole (t' -ℤ t))
        ≈ℚ (root *ℤ root) over (S *ℤ (W h t' a b *ℤ (W h t a b *ℤ W h t a b)))
    above_tangent = field (a ∷ b ∷ g ∷ S ∷ left ∷ t ∷ t' ∷ h ∷ []) (search ratios depth 20 fits 9999) tt

    tangent_below : convex_at t +ℚ convex_slope_at t *ℚ whole (t' -ℤ t) ≤ℚ convex_at t'
    tangent_below =
        let w = W_positive c i in
        let w' = W_positive c i' in
        let p = convex_at_proper i in
        let q = convex_slope_at_proper i in
        Q.≤_by (search propers) (convex_at_proper i') _ (search positivity) above_tangent (search positivity)

  pub bending_bends : Bends h left right d₀ d₁ convex_at convex_slope_at
  bending_bends =
      record {
        joins = record {
          h_positive = c.normal.h_positive;
          proper = convex_at_proper;
          at_left = field (a ∷ g ∷ b ∷ S ∷ left ∷ h ∷ []) (search ratios depth 20 fits 9999) tt;
          at_right = Q.≈_trans {y = whole left +ℚ whole h *ℚ g over S} (search propers)
              (field (a ∷ g ∷ b ∷ S ∷ left ∷ h ∷ []) (search ratios depth 20 fits 9999) tt) (Q.≈_sym (right_≈ c.normal));
        };
        proper = convex_slope_at_proper;
        below = tangent_below;
        at_left = Q.≈_trans {y = (g -ℤ b) over S} (search propers)
            (field (a ∷ g ∷ b ∷ S ∷ h ∷ []) (search ratios depth 20 fits 9999) tt) (Q.≈_sym c.normal.left_slope);
        at_right = Q.≈_trans {y = (g +ℤ a) over S} (search propers)
            (field (a ∷ g ∷ b ∷ S ∷ h ∷ []) (search ratios depth 20 fits 9999) tt) (Q.≈_sym c.normal.right_slope);
      }
