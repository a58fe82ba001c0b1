-- Laws of fractions.
--   NonNeg x, Positive x   for a proper x: it is not negative, above 0
--   propers, positivity    what `search` goes by for `Proper`, and for all three
--   ≤_by, <_by             the certificate: y − x is, by the field tactic, a c that is not negative (above 0)
--   ≈-.., ≤-.., <-..       the same number, and the order
--   nonneg_of_≤            from 0 ≤ x; ≡_of_keeps_order, what keeps order takes equal fractions to equal numbers
--   ≤_of_leℚ, ..           from the tests to the comparisons, and back
-- Assumes nothing.
use mathlib.Core.Path.{◌≡◌, refl, sym, subst}
use mathlib.Core.Bool.{true, false}
use mathlib.Core.List.{[]}
use mathlib.Core.Logic.{◌⊎◌, inl, inr}
use lib.Dec.{T}
use lib.IntN.{ℤ, pos, ◌-ℤ◌, ◌*ℤ◌, zero-*ℤ}
use lib.Signed.{◌≤ℤ◌, ◌<ℤ◌, clash_ℤ}
use mir.Facts.{and_yes, yes_and}
use Rattle.exact.specs.Fraction.{Fraction, Proper, ◌over◌, whole, ◌+ℚ◌, ◌-ℚ◌, ◌*ℚ◌, ◌/ℚ◌, ◌≈ℚ◌, ◌≤ℚ◌, ◌<ℚ◌}
use Rattle.exact.specs.Fraction.{leℚ, ltℚ, eqℚ}
use Rattle.exact.proofs.Tests.{true_or_false, T_true}
use Rattle.exact.proofs.Integer.{*_one}
use Rattle.exact.proofs.Ring.{ring, terms, ≡_of_combination}
use Rattle.exact.proofs.Order as Z
use Rattle.exact.proofs.Order.{signs}
use Rattle.exact.proofs.Field.{field, ratios, ◌∷ℚ◌}

-- ---- signs, for `search`

pub record NonNeg (x : Fraction) : Type 0 where
  pub sign : pos 0 ≤ℤ x.num

pub record Positive (x : Fraction) : Type 0 where
  pub sign : pos 0 <ℤ x.num

pub nonneg_of_positive : {x : Fraction} → Positive x → NonNeg x
nonneg_of_positive h = record { sign = Z.≤_of_< h.sign }

pub proper_over : (a b : ℤ) → pos 0 <ℤ b → Proper (a over b)
unfolding ◌over◌
proper_over a b h = record { above_0 = h }

pub proper_whole : (a : ℤ) → Proper (whole a)
unfolding whole
proper_whole a = record { above_0 = Z.positive_lit tt }

pub proper_+ : {x y : Fraction} → Proper x → Proper y → Proper (x +ℚ y)
unfolding ◌+ℚ◌
proper_+ h k = record { above_0 = Z.positive_* h.above_0 k.above_0 }

pub proper-- : {x y : Fraction} → Proper x → Proper y → Proper (x -ℚ y)
unfolding ◌-ℚ◌
proper-- h k = record { above_0 = Z.positive_* h.above_0 k.above_0 }

pub proper_* : {x y : Fraction} → Proper x → Proper y → Proper (x *ℚ y)
unfolding ◌*ℚ◌
proper_* h k = record { above_0 = Z.positive_* h.above_0 k.above_0 }

pub proper_/ : {x y : Fraction} → Proper x → Positive y → Proper (x /ℚ y)
unfolding ◌/ℚ◌
proper_/ h k = record { above_0 = Z.positive_* h.above_0 k.sign }

pub nonneg_over : (a b : ℤ) → pos 0 ≤ℤ a → NonNeg (a over b)
unfolding ◌over◌
nonneg_over a b h = record { sign = h }

pub positive_over : (a b : ℤ) → pos 0 <ℤ a → Positive (a over b)
unfolding ◌over◌
positive_over a b h = record { sign = h }

pub nonneg_whole : (a : ℤ) → pos 0 ≤ℤ a → NonNeg (whole a)
unfolding whole
nonneg_whole a h = record { sign = h }

pub positive_whole : (a : ℤ) → pos 0 <ℤ a → Positive (whole a)
unfolding whole
positive_whole a h = record { sign = h }

pub nonneg_+ : {x y : Fraction} → Proper x → Proper y → NonNeg x → NonNeg y → NonNeg (x +ℚ y)
unfolding ◌+ℚ◌
nonneg_+ px py h k =
    record { sign = Z.nonneg_+ (Z.nonneg_* h.sign (Z.≤_of_< py.above_0)) (Z.nonneg_* k.sign (Z.≤_of_< px.above_0)) }

pub positive_+ : {x y : Fraction} → Proper x → Proper y → Positive x → NonNeg y → Positive (x +ℚ y)
unfolding ◌+ℚ◌
positive_+ px py h k =
    record { sign = Z.positive_+ (Z.positive_* h.sign py.above_0) (Z.nonneg_* k.sign (Z.≤_of_< px.above_0)) }

pub nonneg_* : {x y : Fraction} → NonNeg x → NonNeg y → NonNeg (x *ℚ y)
unfolding ◌*ℚ◌
nonneg_* h k = record { sign = Z.nonneg_* h.sign k.sign }

pub positive_* : {x y : Fraction} → Positive x → Positive y → Positive (x *ℚ y)
unfolding ◌*ℚ◌
positive_* h k = record { sign = Z.positive_* h.sign k.sign }

pub nonneg_/ : {x y : Fraction} → NonNeg x → Proper y → NonNeg (x /ℚ y)
unfolding ◌/ℚ◌
nonneg_/ h k = record { sign = Z.nonneg_* h.sign (Z.≤_of_< k.above_0) }

pub positive_/ : {x y : Fraction} → Positive x → Proper y → Positive (x /ℚ y)
unfolding ◌/ℚ◌
positive_/ h k = record { sign = Z.positive_* h.sign k.above_0 }

pub nonneg_difference : {x y : Fraction} → x ≤ℚ y → NonNeg (y -ℚ x)
unfolding ◌-ℚ◌
nonneg_difference h = record { sign = Z.nonneg_difference h.cross }

pub positive_difference : {x y : Fraction} → x <ℚ y → Positive (y -ℚ x)
unfolding ◌-ℚ◌
positive_difference h = record { sign = Z.positive_difference h.cross }

pub ruleset propers = (proper_over, proper_whole, proper_+, proper--, proper_*, proper_/)

pub ruleset nonnegs = (nonneg_of_positive, nonneg_over, nonneg_whole, nonneg_+, nonneg_*, nonneg_/, nonneg_difference)

pub ruleset positives = (positive_over, positive_whole, positive_+, positive_*, positive_/, positive_difference)

pub ruleset positivity = (propers, signs, nonnegs, positives)

-- ---- the same number

pub ≈_refl : (x : Fraction) → x ≈ℚ x
≈_refl x = record { cross = refl }

pub ≈_sym : {x y : Fraction} → x ≈ℚ y → y ≈ℚ x
≈_sym h = record { cross = sym h.cross }

pub ≈_of_≡ : {x y : Fraction} → x ≡ y → x ≈ℚ y
≈_of_≡ {x} e = subst (λ z. x ≈ℚ z) e (≈_refl x)

pub ≈_trans : {x y z : Fraction} → Proper y → x ≈ℚ y → y ≈ℚ z → x ≈ℚ z
≈_trans {x} {y} {z} py h k = record {
  cross = Z.≡_cancel py.above_0
      (≡_of_combination z.den x.den h.cross k.cross
      (ring (x ∷ℚ y ∷ℚ z ∷ℚ []) (search terms depth 20 fits 9999) tt));
}

module _ {x x' y y' : Fraction} (h : x ≈ℚ x') (k : y ≈ℚ y') where
  pub ≈-+ : x +ℚ y ≈ℚ x' +ℚ y'
  unfolding ◌+ℚ◌
  ≈-+ = record {
    cross = ≡_of_combination (y.den *ℤ y'.den) (x.den *ℤ x'.den) h.cross k.cross
        (ring (x ∷ℚ y ∷ℚ x' ∷ℚ y' ∷ℚ []) (search terms depth 20 fits 9999) tt);
  }

  pub ≈-- : x -ℚ y ≈ℚ x' -ℚ y'
  unfolding ◌-ℚ◌
  ≈-- = record {
    cross = ≡_of_combination (y.den *ℤ y'.den) (pos 0 -ℤ x.den *ℤ x'.den) h.cross k.cross
        (ring (x ∷ℚ y ∷ℚ x' ∷ℚ y' ∷ℚ []) (search terms depth 20 fits 9999) tt);
  }

  pub ≈-* : x *ℚ y ≈ℚ x' *ℚ y'
  unfolding ◌*ℚ◌
  ≈-* = record {
    cross = ≡_of_combination (y.num *ℤ y'.den) (x'.num *ℤ x.den) h.cross k.cross
        (ring (x ∷ℚ y ∷ℚ x' ∷ℚ y' ∷ℚ []) (search terms depth 20 fits 9999) tt);
  }

  pub ≈-/ : x /ℚ y ≈ℚ x' /ℚ y'
  unfolding ◌/ℚ◌
  ≈-/ = record {
    cross = ≡_of_combination (y.den *ℤ y'.num) (pos 0 -ℤ x'.num *ℤ x.den) h.cross k.cross
        (ring (x ∷ℚ y ∷ℚ x' ∷ℚ y' ∷ℚ []) (search terms depth 20 fits 9999) tt);
  }

-- an equal fraction has the same sign
module _ {x y : Fraction} (px : Proper x) (py : Proper y) (e : x ≈ℚ y) where
  pub nonneg_≈ : NonNeg y → NonNeg x
  nonneg_≈ h =
      record { sign = Z.≤_cancel py.above_0 (rw (zero-*ℤ, e.cross) (Z.nonneg_* h.sign (Z.≤_of_< px.above_0))) }

  pub positive_≈ : Positive y → Positive x
  positive_≈ h =
      record { sign = Z.<_cancel (Z.≤_of_< py.above_0) (rw (zero-*ℤ, e.cross) (Z.positive_* h.sign px.above_0)) }

-- ---- order

pub nonneg_of_≤ : {x : Fraction} → whole (pos 0) ≤ℚ x → NonNeg x
unfolding whole
nonneg_of_≤ {x} h = record { sign = rw (zero-*ℤ, *_one) at h.cross }

pub ≤_of_nonneg : {x : Fraction} → NonNeg x → whole (pos 0) ≤ℚ x
unfolding whole
≤_of_nonneg {x} h = record { cross = rw (zero-*ℤ, *_one) h.sign }

pub ≤_of_≈ : {x y : Fraction} → x ≈ℚ y → x ≤ℚ y
≤_of_≈ h = record { cross = Z.≤_of_≡ h.cross }

pub ≤_antisym : {x y : Fraction} → x ≤ℚ y → y ≤ℚ x → x ≈ℚ y
≤_antisym h k = record { cross = Z.≤_antisym h.cross k.cross }

pub ≤_of_< : {x y : Fraction} → x <ℚ y → x ≤ℚ y
≤_of_< h = record { cross = Z.≤_of_< h.cross }

-- what keeps order takes equal fractions to equal numbers
pub ≡_of_keeps_order : {f : Fraction → ℤ} → ((x y : Fraction) → Proper x → Proper y → x ≤ℚ y → f x ≤ℤ f y) →
    {x y : Fraction} → Proper x → Proper y → x ≈ℚ y → f x ≡ f y
≡_of_keeps_order keeps {x} {y} px py e =
    Z.≤_antisym (keeps x y px py (≤_of_≈ e)) (keeps y x py px (≤_of_≈ (≈_sym e)))

pub ≤_or_< : (x y : Fraction) → (x ≤ℚ y) ⊎ (y <ℚ x)
≤_or_< x y = elim (Z.≤_or_< (x.num *ℤ y.den) (y.num *ℤ x.den)) [
  | inl h ↦ inl (record { cross = h })
  | inr h ↦ inr (record { cross = h })
]

module _ {x y : Fraction} (px : Proper x) (py : Proper y) (c : Fraction) (pc : Proper c) (e : y -ℚ x ≈ℚ c) where
  pub ≤_by : NonNeg c → x ≤ℚ y
  unfolding ◌-ℚ◌
  ≤_by h = record { cross = Z.≤_by _ refl (nonneg_≈ (proper-- py px) pc e h).sign }

  pub <_by : Positive c → x <ℚ y
  unfolding ◌-ℚ◌
  <_by h = record { cross = Z.<_by _ refl (positive_≈ (proper-- py px) pc e h).sign }

pub ≤_trans : {x y z : Fraction} → Proper x → Proper y → Proper z → x ≤ℚ y → y ≤ℚ z → x ≤ℚ z
≤_trans {x} {y} {z} px py pz h k =
    ≤_by px pz ((z -ℚ y) +ℚ (y -ℚ x)) (search propers)
    (field (x ∷ℚ y ∷ℚ z ∷ℚ []) (search ratios depth 20 fits 9999) tt)
    (search positivity)

pub ≤-+ : {x y x' y' : Fraction} → Proper x → Proper y → Proper x' → Proper y' →
    x ≤ℚ x' → y ≤ℚ y' → x +ℚ y ≤ℚ x' +ℚ y'
≤-+ {x} {y} {x'} {y'} px py px' py' h k =
    ≤_by (search propers) (search propers) ((x' -ℚ x) +ℚ (y' -ℚ y)) (search propers)
    (field (x ∷ℚ y ∷ℚ x' ∷ℚ y' ∷ℚ []) (search ratios depth 20 fits 9999) tt)
    (search positivity)

-- what is taken off stands on the other side
pub ≤_from : {x y z : Fraction} → Proper x → Proper y → Proper z → x ≤ℚ y → z -ℚ y ≤ℚ z -ℚ x
≤_from {x} {y} {z} px py pz h =
    ≤_by (proper-- pz py) (proper-- pz px) (y -ℚ x) (proper-- py px)
    (field (x ∷ℚ y ∷ℚ z ∷ℚ []) (search ratios depth 20 fits 9999) tt)
    (nonneg_difference h)

pub whole_≤_of_≤ : (a b : ℤ) → a ≤ℤ b → whole a ≤ℚ whole b
unfolding whole
whole_≤_of_≤ a b h = record { cross = Z.≤-* (Z.nonneg_pos 1) h }

pub ≤_of_whole_≤ : (a b : ℤ) → whole a ≤ℚ whole b → a ≤ℤ b
unfolding whole
≤_of_whole_≤ a b h = Z.≤_cancel (Z.positive_lit tt) h.cross

pub <_of_whole_< : (a b : ℤ) → whole a <ℚ whole b → a <ℤ b
unfolding whole
<_of_whole_< a b h = Z.<_cancel (Z.nonneg_pos 1) h.cross

-- ---- the tests decide the comparisons

module _ {x y : Fraction} where
  pub <_of_ltℚ : T (ltℚ x y) → x <ℚ y
  unfolding ltℚ
  <_of_ltℚ t = record { cross = record { lt = t } }

  pub ≤_of_leℚ : T (leℚ x y) → x ≤ℚ y
  unfolding leℚ
  ≤_of_leℚ t = record { cross = record { le = t } }

  pub leℚ_true_of_≤ : x ≤ℚ y → leℚ x y ≡ true
  unfolding leℚ
  leℚ_true_of_≤ h = T_true _ h.cross.le

  pub ltℚ_true_of_< : x <ℚ y → ltℚ x y ≡ true
  unfolding ltℚ
  ltℚ_true_of_< h = T_true _ h.cross.lt

  pub ltℚ_false_of_≤ : y ≤ℚ x → ltℚ x y ≡ false
  ltℚ_false_of_≤ h = elim (true_or_false (ltℚ x y)) [
    | inl e ↦ clash_ℤ (<_of_ltℚ (rw e tt)).cross h.cross
    | inr e ↦ e
  ]

pub ≈_of_eqℚ : {x y : Fraction} → T (eqℚ x y) → x ≈ℚ y
unfolding eqℚ
≈_of_eqℚ {x} {y} t = let (h, k) = and_yes (leℚ x y) (leℚ y x) t in ≤_antisym (≤_of_leℚ h) (≤_of_leℚ k)

pub eqℚ_of_≈ : {x y : Fraction} → x ≈ℚ y → T (eqℚ x y)
unfolding eqℚ leℚ
eqℚ_of_≈ {x} {y} e = yes_and (leℚ x y) (leℚ y x) (≤_of_≈ e).cross.le (≤_of_≈ (≈_sym e)).cross.le
