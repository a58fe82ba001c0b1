-- How large results can be.
--   product_size, scaled_size   a product in bits; x / c parts of y, for x ≤ c
--   size-..                     the size of a signed number, `nat_abs`: of a sum, a product, between bounds
--   sfits_of_size               a signed number fits where its size does
--   nonneg_above                z and a number that is no smaller than its size are not negative
-- Assumes nothing.
use mathlib.Core.Path.{◌≡◌, refl}
use mathlib.Core.List.{[], ◌∷◌}
use mathlib.Core.Logic.{inl, inr}
use Prim.Native.Nat.{ℕ, zero, suc, ◌+◌, ◌-◌, ◌*◌, ◌/◌, ◌^◌, ◌≤◌, ◌<◌, suc-le-suc}
use native.Mathlib.Nat.{le_refl, le_of_lt, lt_of_le_of_lt, mul-le-mul_left, mul-le-mul_right, div-le_of_le-mul}
use native.Mathlib.Omega.{arith}
use borrow.Author.Tests.{ltb-true, le-ltb}
use lib.Dec.{ltb, leb→le}
use lib.IntN.{ℤ, pos, negsuc, neg_ℤ, nat_abs, sub_ℕ, ◌+ℤ◌, ◌-ℤ◌, ◌*ℤ◌}
use lib.Pow.{shl_lt}
use lib.Signed.{mag, ◌≤ℤ◌}
use mir.Syntax.{Width}
use mir.Val.{SFits, hbits}
use Rattle.exact.proofs.Tests.{true_or_false}
use Rattle.exact.proofs.Ring.{ring, terms}
use Rattle.exact.proofs.Order as Z
use Rattle.exact.proofs.Order.{signs}

-- j bits times k bits
pub product_size : {a b : ℕ} (j k : ℕ) → a < 2 ^ j → b < 2 ^ k → a * b < 2 ^ (j + k)
product_size {a} j k ha hb = lt_of_le_of_lt (mul-le-mul_left a (le_of_lt hb)) (shl_lt j k ha)

pub scaled_size : {x c : ℕ} (y : ℕ) → x ≤ c → x * y / c ≤ y
scaled_size {c = c} y h = div-le_of_le-mul c (mul-le-mul_right y h)

-- ---- signed numbers

pub size_neg : (z : ℤ) → nat_abs (neg_ℤ z) ≡ nat_abs z
size_neg (pos zero) = refl
size_neg (pos (suc n)) = refl
size_neg (negsuc n) = refl

size_subℕ : (a b : ℕ) → nat_abs (sub_ℕ a b) ≤ a + b
size_subℕ a b = elim (true_or_false (ltb a b)) [
  | inl e ↦ rw e (omega (arith, ltb-true a b e))
  | inr e ↦ rw e (omega arith)
]

pub size_+ : (x y : ℤ) → nat_abs (x +ℤ y) ≤ nat_abs x + nat_abs y
size_+ (pos a) (pos b) = le_refl (a + b)
size_+ (pos a) (negsuc b) = size_subℕ a (suc b)
size_+ (negsuc a) (pos b) = omega (arith, size_subℕ b (suc a))
size_+ (negsuc a) (negsuc b) = omega arith

pub size-- : (x y : ℤ) → nat_abs (x -ℤ y) ≤ nat_abs x + nat_abs y
size-- x y = rw (size_neg y) at (size_+ x (neg_ℤ y))

pub size_* : (x y : ℤ) → nat_abs (x *ℤ y) ≡ nat_abs x * nat_abs y
size_* (pos a) (pos b) = refl
size_* (pos a) (negsuc b) = size_neg (pos (a * suc b))
size_* (negsuc a) (pos b) = size_neg (pos (suc a * b))
size_* (negsuc a) (negsuc b) = refl

mag_size : (z : ℤ) → mag z ≤ nat_abs z
mag_size (pos n) = le_refl n
mag_size (negsuc n) = omega arith

pub sfits_of_size : (w : Width) (z : ℤ) → nat_abs z < 2 ^ hbits w → SFits w z
sfits_of_size w z h = record { sfits = omega (arith, mag_size z) }

pub size_between : {n : ℕ} (z : ℤ) → neg_ℤ (pos n) ≤ℤ z → z ≤ℤ pos n → nat_abs z ≤ n
size_between (pos m) low high = Z.≤_of_pos_≤ high
size_between {n = zero} (negsuc m) low high = absurd low.le
size_between {n = suc n} (negsuc m) low high = suc-le-suc (leb→le m n low.le)

-- a difference of two numbers up to n
pub size_difference : {a b n : ℕ} → a ≤ n → b ≤ n → nat_abs (pos a -ℤ pos b) ≤ n
size_difference {a} {b} {n} h k =
    let ha = Z.pos_≤_of_≤ h in
    let hb = Z.pos_≤_of_≤ k in
    size_between (pos a -ℤ pos b) (Z.≤_by _ from_below (search signs)) (Z.≤_by _ from_above (search signs))
  where
    from_below : (pos a -ℤ pos b) -ℤ neg_ℤ (pos n) ≡ pos a +ℤ (pos n -ℤ pos b)
    from_below = ring (pos a ∷ pos b ∷ pos n ∷ []) (search terms depth 20 fits 9999) tt

    from_above : pos n -ℤ (pos a -ℤ pos b) ≡ (pos n -ℤ pos a) +ℤ pos b
    from_above = ring (pos a ∷ pos b ∷ pos n ∷ []) (search terms depth 20 fits 9999) tt

-- a number no larger than m, and m
pub nonneg_above : (m : ℕ) (z : ℤ) → nat_abs z ≤ m → pos 0 ≤ℤ (pos m +ℤ z)
nonneg_above m (pos n) h = Z.nonneg_pos _
nonneg_above m (negsuc n) h = rw (le-ltb m (suc n) h) (Z.nonneg_pos (m - suc n))
