-- Polynomials with coefficients in ℤ in nested Horner form, and that sum, product and the test for 0 mean what they say.
--   con c               the constant c
--   p ·x+ q             p · x + q, x the first variable, p over all variables, q over the later ones
--   value p ρ           p at the values ρ of its variables; a list that is too short goes on with 0
--   is_zero p            each coefficient is 0, so p is 0 everywhere (`zero_value`)
--   plus, scale, times  sum, product with a number, product; each has its value (`plus_value`, ..)
-- Assumes nothing.
use mathlib.Core.Path.{◌≡◌, refl, sym, ◌∙◌, ap}
use mathlib.Core.Bool.{Bool, true, false, cond, ◌&&◌}
use mathlib.Core.List.{List, [], ◌∷◌}
use lib.Dec.{T, eqb, eqb→eq}
use lib.IntN.{ℤ, pos, negsuc, ◌+ℤ◌, ◌*ℤ◌, +ℤ_idl, +ℤ_assoc, +ℤ_comm, *ℤ_comm, zero-*ℤ}
use mir.Facts.{and_yes}
use Rattle.exact.proofs.Integer.{+_left_comm, +_exchange, +-*, *-+, *_assoc}

infixr 5 ◌·x+◌
pub data Poly : Type 0 where
  con : ℤ → Poly
  ◌·x+◌ : Poly → Poly → Poly

abbrev pub head : List ℤ → ℤ
head [] = pos 0
head (x ∷ xs) = x

abbrev pub tail : List ℤ → List ℤ
tail [] = []
tail (x ∷ xs) = xs

abbrev pub value : Poly → List ℤ → ℤ
value (con c) ρ = c
value (p ·x+ q) ρ = value p ρ *ℤ head ρ +ℤ value q (tail ρ)

abbrev pub is_null : ℤ → Bool
is_null (pos n) = eqb n 0
is_null (negsuc n) = false

zero_of_is_null : (c : ℤ) → T (is_null c) → c ≡ pos 0
zero_of_is_null (pos n) t = ap pos (eqb→eq n 0 t)
zero_of_is_null (negsuc n) t = absurd t

abbrev pub is_zero : Poly → Bool
is_zero (con c) = is_null c
is_zero (p ·x+ q) = is_zero p && is_zero q

pub zero_value : (p : Poly) (ρ : List ℤ) → T (is_zero p) → value p ρ ≡ pos 0
zero_value (con c) ρ t = zero_of_is_null c t
zero_value (p ·x+ q) ρ t =
    let both = and_yes (is_zero p) (is_zero q) t in
    rw (zero_value p ρ both.0, zero_value q (tail ρ) both.1, zero-*ℤ (head ρ))

-- p · x + q, where a constant stays one
abbrev pub horner : Poly → Poly → Poly
horner (con c) (con d) = cond (is_null c) (con d) (con c ·x+ con d)
horner (con c) (p ·x+ q) = con c ·x+ (p ·x+ q)
horner (p ·x+ q) r = (p ·x+ q) ·x+ r

horner_con : (b : Bool) (c d : ℤ) (ρ : List ℤ) →
    (T b → c ≡ pos 0) →
    value (cond b (con d) (con c ·x+ con d)) ρ ≡ c *ℤ head ρ +ℤ d
horner_con true c d ρ h = rw (h tt, zero-*ℤ (head ρ)) (sym (+ℤ_idl d))
horner_con false c d ρ h = refl

horner_value : (p q : Poly) (ρ : List ℤ) → value (horner p q) ρ ≡ value p ρ *ℤ head ρ +ℤ value q (tail ρ)
horner_value (con c) (con d) ρ = horner_con (is_null c) c d ρ (zero_of_is_null c)
horner_value (con c) (p ·x+ q) ρ = refl
horner_value (p ·x+ q) r ρ = refl

abbrev pub plus_con : ℤ → Poly → Poly
plus_con c (con d) = con (c +ℤ d)
plus_con c (p ·x+ q) = p ·x+ plus_con c q

plus_con_value : (c : ℤ) (p : Poly) (ρ : List ℤ) → value (plus_con c p) ρ ≡ c +ℤ value p ρ
plus_con_value c (con d) ρ = refl
plus_con_value c (p ·x+ q) ρ =
    rw (plus_con_value c q (tail ρ)) (+_left_comm (value p ρ *ℤ head ρ) c (value q (tail ρ)))

abbrev pub plus : Poly → Poly → Poly
plus (con c) r = plus_con c r
plus (p ·x+ q) (con d) = plus_con d (p ·x+ q)
plus (p ·x+ q) (p' ·x+ q') = horner (plus p p') (plus q q')

pub plus_value : (p r : Poly) (ρ : List ℤ) → value (plus p r) ρ ≡ value p ρ +ℤ value r ρ
plus_value (con c) r ρ = plus_con_value c r ρ
plus_value (p ·x+ q) (con d) ρ = plus_con_value d (p ·x+ q) ρ ∙ +ℤ_comm d (value (p ·x+ q) ρ)
plus_value (p ·x+ q) (p' ·x+ q') ρ =
    rw (horner_value (plus p p') (plus q q') ρ, plus_value p p' ρ, plus_value q q' (tail ρ), +-*)
    (+_exchange (value p ρ *ℤ head ρ) (value p' ρ *ℤ head ρ) (value q (tail ρ)) (value q' (tail ρ)))

abbrev pub scale : ℤ → Poly → Poly
scale c (con d) = con (c *ℤ d)
scale c (p ·x+ q) = horner (scale c p) (scale c q)

pub scale_value : (c : ℤ) (p : Poly) (ρ : List ℤ) → value (scale c p) ρ ≡ c *ℤ value p ρ
scale_value c (con d) ρ = refl
scale_value c (p ·x+ q) ρ =
    rw (horner_value (scale c p) (scale c q) ρ, scale_value c p ρ, scale_value c q (tail ρ), *_assoc) (sym (*-+ c _ _))

-- a product with a factor over the later variables, whose own products f gives
abbrev widen : (Poly → Poly) → Poly → Poly
widen f (con d) = horner (con (pos 0)) (f (con d))
widen f (p ·x+ q) = horner (widen f p) (f q)

widen_value : (f : Poly → Poly) (r : Poly) →
    ((p : Poly) (ρ : List ℤ) → value (f p) ρ ≡ value r ρ *ℤ value p ρ) →
    (p : Poly) (ρ : List ℤ) → value (widen f p) ρ ≡ value r (tail ρ) *ℤ value p ρ
widen_value f r h (con d) ρ =
    rw (horner_value (con (pos 0)) (f (con d)) ρ, zero-*ℤ (head ρ), h (con d) (tail ρ)) (+ℤ_idl (value r (tail ρ) *ℤ d))
widen_value f r h (p ·x+ q) ρ =
    rw (horner_value (widen f p) (f q) ρ, widen_value f r h p ρ, h q (tail ρ), *_assoc) (sym (*-+ (value r (tail ρ)) _ _))

abbrev pub times : Poly → Poly → Poly
times (con c) r = cond (is_null c) (con (pos 0)) (scale c r)
times (p ·x+ q) (con d) = scale d (p ·x+ q)
times (p ·x+ q) (p' ·x+ q') = horner (plus (times p (p' ·x+ q')) (widen (λ s. times q s) p')) (times q q')

times_con : (b : Bool) (c : ℤ) (r : Poly) (ρ : List ℤ) →
    (T b → c ≡ pos 0) →
    value (cond b (con (pos 0)) (scale c r)) ρ ≡ c *ℤ value r ρ
times_con true c r ρ h = rw (h tt) (sym (zero-*ℤ (value r ρ)))
times_con false c r ρ h = scale_value c r ρ

-- (p x + q) r, with r = p' x + q'
horner_product : (p q p' q' x : ℤ) → let r = p' *ℤ x +ℤ q' in
    (p *ℤ r +ℤ q *ℤ p') *ℤ x +ℤ q *ℤ q' ≡ (p *ℤ x +ℤ q) *ℤ r
horner_product p q p' q' x = simp (+-*, *-+, *_assoc, +ℤ_assoc, *ℤ_comm x)

pub times_value : (p r : Poly) (ρ : List ℤ) → value (times p r) ρ ≡ value p ρ *ℤ value r ρ
times_value (con c) r ρ = times_con (is_null c) c r ρ (zero_of_is_null c)
times_value (p ·x+ q) (con d) ρ = scale_value d (p ·x+ q) ρ ∙ *ℤ_comm d (value (p ·x+ q) ρ)
times_value (p ·x+ q) (p' ·x+ q') ρ =
    rw (
      horner_value (plus (times p (p' ·x+ q')) (widen (λ s. times q s) p')) (times q q') ρ,
      plus_value (times p (p' ·x+ q')) (widen (λ s. times q s) p') ρ,
      times_value p (p' ·x+ q') ρ,
      widen_value (λ s. times q s) q (times_value q) p' ρ,
      times_value q q' (tail ρ),
    )
    (horner_product (value p ρ) (value q (tail ρ)) (value p' ρ) (value q' (tail ρ)) (head ρ))
