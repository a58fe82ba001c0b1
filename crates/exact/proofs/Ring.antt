-- The ring tactic: equations between sums, differences and products of integers (`ring`) or natural numbers (`ring_ℕ`).
--   ring ρ (search terms depth 20 fits 9999) tt : a ≡ b
--   ρ                the variables, each once; what is no +, −, · or numeral is one (`x.num`, `pos n`, `pos (suc n)`)
--   depth            20 has served up to ten variables, 30 up to sixteen
--   {a = …} {b = …}  the sides, written after ρ where nothing else shows them
-- How it works: `search terms` finds each side as a `Term`, whose normal form is a polynomial; the residue of both is 0.
-- How it fails:
--   "no proof of `Sides ..`", "Every way was tried"         ρ lacks a variable
--   "no proof of `Sides ..`", "It stopped 20 lemmas deep"   depth is too small
--   "the goal is not yet determined"                        a side is not shown, as between two calls joined by `∙`
--   at tt, "one has `lib.Dec.T`", "the other `Prim.Unit`"   the equation is false
-- Assumes nothing.
use mathlib.Core.Path.{◌≡◌, refl, sym, ◌∙◌, ap}
use mathlib.Core.List.{List, [], ◌∷◌, map}
use Prim.Native.Nat.{ℕ, ◌+◌, ◌*◌}
use lib.Dec.{T, leb}
use lib.IntN.{ℤ, pos, negsuc, neg_ℤ, nat_abs, ◌+ℤ◌, ◌-ℤ◌, ◌*ℤ◌, +ℤ_idl, +ℤ_idr, zero-*ℤ}
use Rattle.exact.proofs.Integer.{≡_of_difference, one_*, neg_*}
use Rattle.exact.proofs.Poly.{Poly, con, ◌·x+◌, value, plus, scale, times, is_zero}
use Rattle.exact.proofs.Poly.{plus_value, scale_value, times_value, zero_value}

pub data Var : ℤ → List ℤ → Type 0 where
  here : {x : ℤ} {ρ : List ℤ} → Var x (x ∷ ρ)
  there : {x y : ℤ} {ρ : List ℤ} → Var x ρ → Var x (y ∷ ρ)

pub data Term (ρ : List ℤ) : ℤ → Type 0 where
  var : {x : ℤ} → Var x ρ → Term ρ x
  num : {n : ℕ} → T (leb 0 n) → Term ρ (pos n)
  num_neg : {n : ℕ} → T (leb 0 n) → Term ρ (negsuc n)
  add : {a b : ℤ} → Term ρ a → Term ρ b → Term ρ (a +ℤ b)
  sub : {a b : ℤ} → Term ρ a → Term ρ b → Term ρ (a -ℤ b)
  mul : {a b : ℤ} → Term ρ a → Term ρ b → Term ρ (a *ℤ b)
  neg : {a : ℤ} → Term ρ a → Term ρ (neg_ℤ a)
  add_ℕ : {a b : ℕ} → Term ρ (pos a) → Term ρ (pos b) → Term ρ (pos (a + b))
  mul_ℕ : {a b : ℕ} → Term ρ (pos a) → Term ρ (pos b) → Term ρ (pos (a * b))

abbrev pub minus : Poly → Poly
minus p = scale (negsuc 0) p

pub minus_value : (p : Poly) (ρ : List ℤ) → value (minus p) ρ ≡ neg_ℤ (value p ρ)
minus_value p ρ = scale_value (negsuc 0) p ρ ∙ neg_* (pos 1) (value p ρ) ∙ ap neg_ℤ (one_* (value p ρ))

abbrev variable : {x : ℤ} {ρ : List ℤ} → Var x ρ → Poly
variable here = con (pos 1) ·x+ con (pos 0)
variable (there v) = con (pos 0) ·x+ variable v

variable_value : {x : ℤ} {ρ : List ℤ} (v : Var x ρ) → value (variable v) ρ ≡ x
variable_value (here {x = x}) = +ℤ_idr (pos 1 *ℤ x) ∙ one_* x
variable_value (there {x = x} {y = y} v) = rw (zero-*ℤ y, variable_value v) (+ℤ_idl x)

abbrev pub normal : {ρ : List ℤ} {z : ℤ} → Term ρ z → Poly
normal (var v) = variable v
normal (num {n = n} t) = con (pos n)
normal (num_neg {n = n} t) = con (negsuc n)
normal (add s t) = plus (normal s) (normal t)
normal (sub s t) = plus (normal s) (minus (normal t))
normal (mul s t) = times (normal s) (normal t)
normal (neg t) = minus (normal t)
normal (add_ℕ s t) = plus (normal s) (normal t)
normal (mul_ℕ s t) = times (normal s) (normal t)

pub normal_value : {ρ : List ℤ} {z : ℤ} (t : Term ρ z) → value (normal t) ρ ≡ z
normal_value (var v) = variable_value v
normal_value (num t) = refl
normal_value (num_neg t) = refl
normal_value {ρ} (add s t) = rw (plus_value (normal s) (normal t) ρ, normal_value s, normal_value t)
normal_value {ρ} (sub s t) =
    rw (plus_value (normal s) (minus (normal t)) ρ, minus_value (normal t) ρ, normal_value s, normal_value t)
normal_value {ρ} (mul s t) = rw (times_value (normal s) (normal t) ρ, normal_value s, normal_value t)
normal_value {ρ} (neg t) = rw (minus_value (normal t) ρ, normal_value t)
normal_value {ρ} (add_ℕ s t) = rw (plus_value (normal s) (normal t) ρ, normal_value s, normal_value t)
normal_value {ρ} (mul_ℕ s t) = rw (times_value (normal s) (normal t) ρ, normal_value s, normal_value t)

-- both sides of an identity
pub data Sides (ρ : List ℤ) : ℤ → ℤ → Type 0 where
  sides : {a b : ℤ} → Term ρ a → Term ρ b → Sides ρ a b

pub ruleset terms = (here, there, var, num, num_neg, add, sub, mul, neg, add_ℕ, mul_ℕ, sides, tt)

-- the normal form of a − b
abbrev pub residue : {ρ : List ℤ} {a b : ℤ} → Sides ρ a b → Poly
residue (sides s t) = normal (sub s t)

pub ring : (ρ : List ℤ) {a b : ℤ} (s : Sides ρ a b) → T (is_zero (residue s)) → a ≡ b
ring ρ (sides {a = a} {b = b} s t) h =
    ≡_of_difference a b (sym (normal_value (sub s t)) ∙ zero_value (normal (sub s t)) ρ h)

-- a − b is a combination of differences that are 0
pub ≡_of_combination : {a b p q r s : ℤ} (k l : ℤ) → p ≡ q → r ≡ s → a -ℤ b ≡ k *ℤ (p -ℤ q) +ℤ l *ℤ (r -ℤ s) → a ≡ b
≡_of_combination {a} {b} {p} {q} {r} {s} k l e f h = ≡_of_difference a b (h ∙ rw (e, f) vanishes)
  where
    vanishes : k *ℤ (q -ℤ q) +ℤ l *ℤ (s -ℤ s) ≡ pos 0
    vanishes = ring (q ∷ s ∷ k ∷ l ∷ []) (search terms depth 20 fits 9999) tt

-- an equation of natural numbers is that of the integers
pub ring_ℕ : (ρ : List ℕ) {a b : ℕ} (s : Sides (map pos ρ) (pos a) (pos b)) → T (is_zero (residue s)) → a ≡ b
ring_ℕ ρ s h = ap nat_abs (ring (map pos ρ) s h)
