-- The curve of a segment by closed forms, over any common denominator S of the three slopes; denominators are above 0 throughout.
--   Closed v x           v is the number x, and has a denominator above 0
--   In h t               t is a distance from the left end of a segment of length h
--   Normal               a segment with its slopes over S: left slope e₀ / S, chord g / S, right slope e₁ / S
--   Climbing             and its rise is above 0, its slopes are not below 0
--   Bending              and its slopes are on both sides of the chord: left slope (g − b) / S, right slope (g + a) / S
--   A, B, rising_form    left + F A / B
--   W, convex_form       left + (g − b) t / S + (b t)² / (S W); convex_slope is its slope
--   flat_value, rising_value, straight_value, bent_value    the curve is its closed form, case by case
--   congruence           equal fractions put into a fraction, for `search`
-- Assumes nothing.
use mathlib.Core.Path.{◌≡◌}
use mathlib.Core.List.{[], ◌∷◌}
use lib.IntN.{ℤ, pos, ◌+ℤ◌, ◌-ℤ◌, ◌*ℤ◌, +ℤ_invr}
use lib.Signed.{◌≤ℤ◌, ◌<ℤ◌, lt_z}
use Rattle.exact.specs.Fraction.{Fraction, Proper, ◌over◌, whole, ◌+ℚ◌, ◌-ℚ◌, ◌*ℚ◌, ◌/ℚ◌, ◌≈ℚ◌, ◌<ℚ◌}
use Rattle.exact.proofs.Ring.{ring, terms}
use Rattle.exact.proofs.Order as Z
use Rattle.exact.proofs.Order.{signs}
use Rattle.exact.proofs.Field.{field, ratios}
use Rattle.exact.proofs.Fractions as Q
use Rattle.exact.proofs.Fractions.{Positive, NonNeg, propers, positivity}
use Rattle.exact.proofs.Tests.{T_true}
use Rattle.model.specs.Interpolant as I

pub record Closed (v x : Fraction) : Type 0 where
  pub proper : Proper v
  pub same : v ≈ℚ x

-- ---- the closed forms

module _ (h t : ℤ) where
  pub record In : Type 0 where
    pub low : pos 0 ≤ℤ t
    pub high : pos 0 ≤ℤ (h -ℤ t)

  abbrev pub A : (e₀ g : ℤ) → ℤ
  A e₀ g = t *ℤ (g *ℤ t +ℤ e₀ *ℤ (h -ℤ t))

  abbrev pub B : (e₀ g e₁ : ℤ) → ℤ
  B e₀ g e₁ = g *ℤ (t *ℤ t +ℤ (h -ℤ t) *ℤ (h -ℤ t)) +ℤ (e₀ +ℤ e₁) *ℤ (t *ℤ (h -ℤ t))

  abbrev pub W : (a b : ℤ) → ℤ
  W a b = a *ℤ (h -ℤ t) +ℤ b *ℤ t

abbrev pub rising_form : (h left right t e₀ g e₁ : ℤ) → Fraction
rising_form h left right t e₀ g e₁ = whole left +ℚ whole (right -ℤ left) *ℚ A h t e₀ g over B h t e₀ g e₁

abbrev pub convex_form : (h left t S a g b : ℤ) → Fraction
convex_form h left t S a g b =
    whole left +ℚ ((g -ℤ b) *ℤ t) over S +ℚ (b *ℤ t *ℤ (b *ℤ t)) over (S *ℤ W h t a b)

abbrev pub convex_slope : (h t S a g b : ℤ) → Fraction
convex_slope h t S a g b =
    (g -ℤ b) over S +ℚ (b *ℤ b *ℤ t *ℤ (a *ℤ h +ℤ W h t a b)) over (S *ℤ (W h t a b *ℤ W h t a b))

-- ---- segments over S

module _ (h left right : ℤ) (d₀ d₁ : Fraction) (S e₀ g e₁ : ℤ) where
  pub record Normal : Type 0 where
    pub h_positive : pos 0 <ℤ h
    pub S_positive : pos 0 <ℤ S
    pub left_proper : Proper d₀
    pub right_proper : Proper d₁
    pub left_slope : d₀ ≈ℚ e₀ over S
    pub right_slope : d₁ ≈ℚ e₁ over S
    pub chord_slope : (right -ℤ left) over h ≈ℚ g over S

  pub record Climbing : Type 0 where
    pub normal : Normal
    pub rise_positive : pos 0 <ℤ (right -ℤ left)
    pub g_positive : pos 0 <ℤ g
    pub e₀_nonneg : pos 0 ≤ℤ e₀
    pub e₁_nonneg : pos 0 ≤ℤ e₁

pub record Bending (h left right : ℤ) (d₀ d₁ : Fraction) (S a g b : ℤ) : Type 0 where
  pub normal : Normal h left right d₀ d₁ S (g -ℤ b) g (g +ℤ a)
  pub left_below : d₀ <ℚ (right -ℤ left) over h
  pub right_above : (right -ℤ left) over h <ℚ d₁
  pub below_chord : (right -ℤ left) over h -ℚ d₀ ≈ℚ b over S
  pub above_chord : d₁ -ℚ (right -ℤ left) over h ≈ℚ a over S
  pub a_positive : pos 0 <ℤ a
  pub b_positive : pos 0 <ℤ b

-- a numerator over S has the sign of its fraction
module _ {d : Fraction} {S e : ℤ} (S_positive : pos 0 <ℤ S) (p : Proper d) (same : d ≈ℚ e over S) where
  nonneg_over_S : NonNeg d → pos 0 ≤ℤ e
  unfolding ◌over◌
  nonneg_over_S k = (Q.nonneg_≈ {x = e over S} (search propers) p (Q.≈_sym same) k).sign

  positive_over_S : Positive d → pos 0 <ℤ e
  unfolding ◌over◌
  positive_over_S k = (Q.positive_≈ {x = e over S} (search propers) p (Q.≈_sym same) k).sign

difference_over_S : {x y : Fraction} {S : ℤ} (m n : ℤ) → pos 0 <ℤ S →
    x ≈ℚ m over S → y ≈ℚ n over S → x -ℚ y ≈ℚ (m -ℤ n) over S
difference_over_S {S = S} m n S_positive e f =
    Q.≈_trans (search propers) (Q.≈-- e f) (field (m ∷ n ∷ S ∷ []) (search ratios depth 20 fits 9999) tt)

-- the right value, P and Q by the slopes over S
abbrev right_over : (h left S g : ℤ) → Fraction
right_over h left S g = whole left +ℚ whole h *ℚ g over S

abbrev P_over : (h left t S e₀ g e₁ : ℤ) (r : Fraction) → Fraction
P_over h left t S e₀ g e₁ r =
    let p = t over h in
    let q = (h -ℤ t) over h in
    let right = right_over h left S g in
    right *ℚ (p *ℚ p *ℚ p) +ℚ (r *ℚ right -ℚ whole h *ℚ e₁ over S) *ℚ (p *ℚ p *ℚ q)
    +ℚ (r *ℚ whole left +ℚ whole h *ℚ e₀ over S) *ℚ (p *ℚ q *ℚ q) +ℚ whole left *ℚ (q *ℚ q *ℚ q)

abbrev Q_over : (h t : ℤ) (r : Fraction) → Fraction
Q_over h t r = whole (pos 1) +ℚ (r -ℚ whole (pos 3)) *ℚ (t over h *ℚ (h -ℤ t) over h)

pub ruleset congruence = (Q.≈-+, Q.≈--, Q.≈-*, Q.≈-/, Q.≈_refl)

module _ {h left right : ℤ} {d₀ d₁ : Fraction} {S e₀ g e₁ : ℤ} (n : Normal h left right d₀ d₁ S e₀ g e₁) where
  -- F is h times the chord
  rise_≈ : whole (right -ℤ left) ≈ℚ whole h *ℚ g over S
  rise_≈ =
      Q.≈_trans {y = whole h *ℚ (right -ℤ left) over h} (search propers)
      (field (left ∷ right ∷ h ∷ []) (search ratios depth 20 fits 9999) tt) (search congruence)

  pub right_≈ : whole right ≈ℚ right_over h left S g
  right_≈ =
      Q.≈_trans {y = whole left +ℚ whole (right -ℤ left)} (search propers)
      (field (left ∷ right ∷ []) (search ratios depth 20 fits 9999) tt) (search (congruence, rise_≈))

  below_chord : (right -ℤ left) over h -ℚ d₀ ≈ℚ (g -ℤ e₀) over S
  below_chord = difference_over_S g e₀ n.S_positive n.chord_slope n.left_slope

  above_chord : d₁ -ℚ (right -ℤ left) over h ≈ℚ (e₁ -ℤ g) over S
  above_chord = difference_over_S e₁ g n.S_positive n.right_slope n.chord_slope

  pub climbing_of_normal : pos 0 <ℤ (right -ℤ left) → NonNeg d₀ → NonNeg d₁ → Climbing h left right d₀ d₁ S e₀ g e₁
  climbing_of_normal F_positive k₀ k₁ =
      record {
        normal = n;
        rise_positive = F_positive;
        g_positive = positive_over_S n.S_positive (search propers) n.chord_slope (search positivity);
        e₀_nonneg = nonneg_over_S n.S_positive n.left_proper n.left_slope k₀;
        e₁_nonneg = nonneg_over_S n.S_positive n.right_proper n.right_slope k₁;
      }

  pub bending_of_normal : d₀ <ℚ (right -ℤ left) over h → (right -ℤ left) over h <ℚ d₁ →
      Bending h left right d₀ d₁ S (e₁ -ℤ g) g (g -ℤ e₀)
  bending_of_normal low high =
      let left-again : g -ℤ (g -ℤ e₀) ≡ e₀ = ring (g ∷ e₀ ∷ []) (search terms depth 20 fits 9999) tt in
      let right-again : g +ℤ (e₁ -ℤ g) ≡ e₁ = ring (g ∷ e₁ ∷ []) (search terms depth 20 fits 9999) tt in
      record {
        normal = rw (left-again, right-again) n;
        left_below = low;
        right_above = high;
        below_chord = below_chord;
        above_chord = above_chord;
        a_positive = positive_over_S n.S_positive (search propers) above_chord (search positivity);
        b_positive = positive_over_S n.S_positive (search propers) below_chord (search positivity);
      }

  -- the curve by r is x, where P / Q over S by an equal r' is x
  closed_over : {r r' x : Fraction} (t : ℤ) → Proper r → Proper r' → r ≈ℚ r' → Positive (Q_over h t r') →
      P_over h left t S e₀ g e₁ r' /ℚ Q_over h t r' ≈ℚ x → Closed (I.rational h left right t d₀ d₁ r) x
  unfolding I.p I.q I.P I.Q I.rational
  closed_over t p p' e Q_positive k =
      let right = right_≈ in
      record {
        proper = Q.proper_/ (search propers depth 9)
            (Q.positive_≈ (search propers) (search propers) (search congruence depth 9 fits 9999) Q_positive);
        same = Q.≈_trans (Q.proper_/ (search propers depth 9) Q_positive) (search congruence depth 9 fits 9999) k;
      }

  -- ---- the curve in each case

  pub flat_value : (t : ℤ) → right ≡ left → Closed (I.rising_curve h left right t d₀ d₁) (whole left)
  unfolding I.rising_curve
  flat_value t e = rw (e, +ℤ_invr) (search (propers, Q.≈_refl))

  pub straight_value : (t : ℤ) → d₀ ≈ℚ (right -ℤ left) over h →
      Closed (I.convex_curve h left right t d₀ d₁) (whole left +ℚ (right -ℤ left) over h *ℚ whole t)
  unfolding I.convex_curve I.chord
  straight_value t e = rw (Q.ltℚ_false_of_≤ (Q.≤_of_≈ (Q.≈_sym e))) (search (propers, Q.≈_refl))

module _ {h left right : ℤ} {d₀ d₁ : Fraction} {S e₀ g e₁ t : ℤ} (c : Climbing h left right d₀ d₁ S e₀ g e₁) (i : In h t) where
  -- a sum of what is above 0 and what is not negative
  twice_B :
      B h t e₀ g e₁ *ℤ pos 2 -ℤ pos 0 *ℤ pos 2
      ≡ g *ℤ (h *ℤ h) +ℤ g *ℤ ((t +ℤ t -ℤ h) *ℤ (t +ℤ t -ℤ h)) +ℤ pos 2 *ℤ ((e₀ +ℤ e₁) *ℤ (t *ℤ (h -ℤ t)))
  twice_B = ring (e₀ ∷ g ∷ e₁ ∷ t ∷ h ∷ []) (search terms depth 20 fits 9999) tt

  pub B_positive : pos 0 <ℤ B h t e₀ g e₁
  B_positive = Z.<_cancel {k = pos 2} (Z.nonneg_pos 2) (Z.<_by _ twice_B (search signs depth 9))

  abbrev r_climbing : Fraction
  r_climbing = whole (pos 1) +ℚ (e₀ over S +ℚ e₁ over S) /ℚ g over S

  -- Q is above 0, and P / Q has the closed form
  Q_climbing : Q_over h t r_climbing ≈ℚ B h t e₀ g e₁ over (g *ℤ (h *ℤ h))
  Q_climbing = field (e₀ ∷ g ∷ e₁ ∷ S ∷ t ∷ h ∷ []) (search ratios depth 20 fits 9999) tt

  P_climbing :
      P_over h left t S e₀ g e₁ r_climbing /ℚ Q_over h t r_climbing
      ≈ℚ whole left +ℚ (whole h *ℚ g over S) *ℚ A h t e₀ g over B h t e₀ g e₁
  P_climbing = field (e₀ ∷ g ∷ e₁ ∷ S ∷ left ∷ t ∷ h ∷ []) (search ratios depth 20 fits 9999) tt

  pub rising_value : Closed (I.rising_curve h left right t d₀ d₁) (rising_form h left right t e₀ g e₁)
  unfolding I.rising_curve I.r_rising I.chord
  rising_value =
      let B_pos = B_positive in
      let rise = Q.≈_sym (rise_≈ c.normal) in
      rw (T_true (lt_z (pos 0) (right -ℤ left)) c.rise_positive.lt)
      (closed_over c.normal t (search positivity) (search positivity) (search congruence)
      (Q.positive_≈ (search positivity depth 9) (search positivity) Q_climbing (search positivity))
      (Q.≈_trans (search propers) P_climbing (search congruence)))

module _ {h t a b : ℤ} (h_positive : pos 0 <ℤ h) (i : In h t) (a_positive : pos 0 <ℤ a) (b_positive : pos 0 <ℤ b) where
  -- h − t times a and t times b, where a and b are at least 1, is at least h
  W_by_h : W h t a b -ℤ pos 0 ≡ h +ℤ ((a -ℤ pos 1) *ℤ (h -ℤ t) +ℤ (b -ℤ pos 1) *ℤ t)
  W_by_h = ring (a ∷ b ∷ t ∷ h ∷ []) (search terms depth 20 fits 9999) tt

  blend_positive : pos 0 <ℤ W h t a b
  blend_positive =
      let a_least : pos 0 ≤ℤ (a -ℤ pos 1) = Z.nonneg_difference (Z.next_of_< a_positive) in
      let b_least : pos 0 ≤ℤ (b -ℤ pos 1) = Z.nonneg_difference (Z.next_of_< b_positive) in
      Z.<_by _ W_by_h (search signs)

module _ {h left right : ℤ} {d₀ d₁ : Fraction} {S a g b t : ℤ} (c : Bending h left right d₀ d₁ S a g b) (i : In h t) where
  pub W_positive : pos 0 <ℤ W h t a b
  W_positive = search blend_positive

  abbrev r_bending : Fraction
  r_bending = whole (pos 1) +ℚ a over S /ℚ b over S +ℚ b over S /ℚ a over S

  -- Q is above 0, and P / Q is the closed form
  Q_bending : Q_over h t r_bending ≈ℚ (W h t a b *ℤ W h t b a) over (a *ℤ b *ℤ (h *ℤ h))
  Q_bending = field (a ∷ b ∷ S ∷ t ∷ h ∷ []) (search ratios depth 20 fits 9999) tt

  P_bending : P_over h left t S (g -ℤ b) g (g +ℤ a) r_bending /ℚ Q_over h t r_bending ≈ℚ convex_form h left t S a g b
  P_bending = field (a ∷ g ∷ b ∷ S ∷ left ∷ t ∷ h ∷ []) (search ratios depth 20 fits 9999) tt

  pub bent_value : Closed (I.convex_curve h left right t d₀ d₁) (convex_form h left t S a g b)
  unfolding I.convex_curve I.r_convex I.chord
  bent_value =
      let w = W_positive in
      let w' : pos 0 <ℤ W h t b a = search blend_positive in
      rw (Q.ltℚ_true_of_< c.left_below, Q.ltℚ_true_of_< c.right_above)
      (closed_over c.normal t (search positivity) (search positivity) (search congruence)
      (Q.positive_≈ (search positivity depth 9) (search positivity) Q_bending (search positivity)) P_bending)
