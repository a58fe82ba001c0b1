-- General lemmas on booleans and tests.
--   true_or_false         a test, by its two results
--   T_true                a test that holds is true
--   same_test             tests that follow from each other are equal
--   or_left, or_right     the parts of an `||` that is false
--   compare               a ≤ x or x < a, with the test's result
--   le_z_not_lt_z           a ≤ b is b < a, negated
--   ≤_of_lt_z_false        a < b is false → b ≤ a; lt_z_false_of_≤, the converse
-- Assumes nothing.
use mathlib.Core.Path.{◌≡◌, refl}
use mathlib.Core.Bool.{Bool, true, false, not, ◌||◌, true≢false}
use mathlib.Core.Logic.{◌⊎◌, inl, inr}
use Prim.Native.Nat.{ℕ, ◌≤◌, ◌<◌}
use borrow.Author.Tests.{leb-true, leb-false, lt-ltb, le-ltb}
use lib.Dec.{T, leb, ltb}
use lib.IntN.{ℤ, pos, negsuc}
use lib.Signed.{◌≤ℤ◌, le_z, lt_z, lt_z_no, clash_ℤ}

pub true_or_false : (b : Bool) → (b ≡ true) ⊎ (b ≡ false)
true_or_false true = inl refl
true_or_false false = inr refl

pub T_true : (b : Bool) → T b → b ≡ true
T_true true t = refl
T_true false t = absurd t

pub same_test : (s t : Bool) → (T s → T t) → (T t → T s) → s ≡ t
same_test true true f g = refl
same_test true false f g = absurd (f tt)
same_test false true f g = absurd (g tt)
same_test false false f g = refl

pub or_left : (a b : Bool) → (a || b) ≡ false → a ≡ false
or_left true b e = e
or_left false b e = refl

pub or_right : (a b : Bool) → (a || b) ≡ false → b ≡ false
or_right true b e = absurd (true≢false e)
or_right false b e = e

pub compare : (a x : ℕ) → ((a ≤ x) × (leb a x ≡ true)) ⊎ ((x < a) × (leb a x ≡ false))
compare a x = elim (true_or_false (leb a x)) [ inl e ↦ inl (leb-true a x e, e) | inr e ↦ inr (leb-false a x e, e) ]

leb_not_ltb : (a b : ℕ) → leb a b ≡ not (ltb b a)
leb_not_ltb a b = elim (compare a b) [ inl (h, e) ↦ rw (e, le-ltb b a h) | inr (h, e) ↦ rw (e, lt-ltb b a h) ]

pub le_z_not_lt_z : (a b : ℤ) → le_z a b ≡ not (lt_z b a)
le_z_not_lt_z (pos a) (pos b) = leb_not_ltb a b
le_z_not_lt_z (pos a) (negsuc b) = refl
le_z_not_lt_z (negsuc a) (pos b) = refl
le_z_not_lt_z (negsuc a) (negsuc b) = leb_not_ltb b a

pub ≤_of_lt_z_false : {a b : ℤ} → lt_z a b ≡ false → b ≤ℤ a
≤_of_lt_z_false e = lt_z_no (rw e tt)

pub lt_z_false_of_≤ : {a b : ℤ} → b ≤ℤ a → lt_z a b ≡ false
lt_z_false_of_≤ {a} {b} h =
    elim (true_or_false (lt_z a b)) [ inl e ↦ clash_ℤ (record { lt = rw e tt }) h | inr e ↦ e ]
