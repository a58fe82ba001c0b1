-- Which binary64 numbers are whole: those that truncation leaves as they are.
--   itself           a number with an exponent from 0 on: it is whole, and stays as it is
--   no_fraction      one with a negative exponent is not whole, since its significand is odd; and it is another, truncated
--   found            what compares equal to a whole number of 32 bits is that number
--   taken            what is whole, brought into range
--   not_whole, not_finite    what is not
--   below_infinity, not_above_infinity    what is finite, by two comparisons
-- Assumes nothing.
use mathlib.Core.Path.{◌≡◌, refl, sym, ◌∙◌, ap, subst}
use mathlib.Core.Bool.{Bool, true, false, ◌&&◌, ◌||◌, beq, cond, true≢false}
use mathlib.Core.Option.{Option, none, some}
use Prim.Native.Nat.{ℕ, zero, suc, ◌+◌, ◌*◌, ◌/◌, ◌%◌, ◌^◌, ◌≤◌, ◌<◌, min}
use native.Mathlib.Nat.{div-le_self, div-one, pow-suc, mul-one, mul_assoc, mul_right_comm, eq_of_mul-eq-mul_right, le_trans}
use native.Mathlib.Nat.{mul-lt-mul_of_pos_right, le_of_lt, mul-pos, zero-lt-suc}
use native.Mathlib.Omega.{arith}
use borrow.Author.Tests.{eq-eqb}
use lib.IntN.{ℤ, pos, negsuc, neg_ℤ}
use lib.Dec.{T, ltb, leb, eqb, ltb→lt, eqb→eq}
use lib.Pow.{pow-add, pow_pos}
use lib.Ieee.{Float, nan, inf, fin, binary64, up, down, round, eq, lt, fits, of_bits, of_int, to_signed}
use lib.Ieee.Fits.{down_pos, and_l, and_r, round-fits}
use lib.Ieee.Exact.{HasValue, round_exact}
use lib.Ieee.Back.{round_whole, whole_unique}
use mir.Val.{SFits}
use Rattle.std.specs.Int.{w32}
use Rattle.std.specs.Float.{trunc, round_with, float_is_finite}
use Rattle.binary64.specs.Value.{signed, float_value, whole_of, whole_number}
use Rattle.binary64.specs.Inner.{saturate, saturated}
use Rattle.binary64.proofs.Values.{whole_of_value, value_of_whole}

-- ---- an exponent from 0 on

record Bounds (m : ℕ) (e : ℤ) : Type 0 where
  pub odd : suc m % 2 ≡ 1
  pub digits : suc m < 2 ^ 53
  pub below : suc m * up e < 2 ^ 1024 * down e

bounds : (s : Bool) (m : ℕ) (e : ℤ) → T (fits binary64 (fin s (suc m) e)) → Bounds m e
unfolding fits
bounds s m e t =
    let a = eqb (suc m % 2) 1 in
    let b = ltb (suc m) (2 ^ 53) in
    let c = leb (down e) (2 ^ 1074) in
    let d = ltb (suc m * up e) (2 ^ 1024 * down e) in
    let ab = and_l (a && b) c (and_l (a && b && c) d t) in
    record {
      odd = eqb→eq (suc m % 2) 1 (and_l a b ab);
      digits = ltb→lt (suc m) (2 ^ 53) (and_r a b ab);
      below = ltb→lt (suc m * up e) (2 ^ 1024 * down e) (and_r (a && b && c) d t);
    }

-- a power of two cut out of a product
scaled : (m k l : ℕ) → m * 2 ^ k * 2 ^ l ≡ m * 2 ^ (k + l)
scaled m k l = mul_assoc m (2 ^ k) (2 ^ l) ∙ ap (λ (z : ℕ). m * z) (sym (pow-add 2 k l))

trunc_is : (s : Bool) (m : ℕ) (e : ℤ) → trunc binary64 (fin s m e) ≡ round binary64 s (m * up e / down e) 1
unfolding round_with
trunc_is false m e = refl
trunc_is true m e = refl

module _ (s : Bool) (k : ℕ) where
  exact : (m : ℕ) → T (fits binary64 (fin s m (pos k))) → HasValue (round binary64 s (m * 2 ^ k) 1) s (m * 2 ^ k) 1
  exact zero t =
      round_exact binary64 s (0 * 2 ^ k) 1 0 0 (omega arith) (pow_pos 53) (omega (arith, pow_pos 2098)) (omega arith)
  exact (suc m) t =
      let b = bounds s m (pos k) t in
      let below : suc m * 2 ^ k * 2 ^ 1074 < 2 ^ 1024 * 1 * 2 ^ 1074 = mul-lt-mul_of_pos_right b.below (pow_pos 1074) in
      round_exact binary64 s (suc m * 2 ^ k) 1 (suc m) (k + 1074) (omega arith) b.digits
      (omega (arith, scaled (suc m) k 1074, pow-add 2 1074 1024)) (omega (arith, scaled (suc m) k 1074))

  itself : (m : ℕ) → T (fits binary64 (fin s m (pos k))) → trunc binary64 (fin s m (pos k)) ≡ fin s m (pos k)
  itself m t =
      trunc_is s m (pos k)
      ∙ ap (λ (n : ℕ). round binary64 s n 1) (div-one (m * 2 ^ k))
      ∙ sym (whole_unique binary64 (fin s m (pos k)) (round binary64 s (m * 2 ^ k) 1) s (m * 2 ^ k) t
      (round-fits binary64 s (m * 2 ^ k) 1) (refl, refl) (exact m t))

-- ---- a negative exponent

no_fraction : (s : Bool) (m k : ℕ) → T (fits binary64 (fin s m (negsuc k))) → (n : ℕ) → m * 1 ≡ n * 2 ^ suc k → ⊥
unfolding fits
no_fraction s zero k t n h = let one = eqb→eq (1 * 2 ^ suc k) 1 t in omega (arith, pow_pos k, pow-suc 2 k)
no_fraction s (suc m) k t n h =
    let b = bounds s m (negsuc k) t in omega (arith, ap (λ (z : ℕ). n * z) (pow-suc 2 k))

few_digits : (s : Bool) (m : ℕ) (e : ℤ) → T (fits binary64 (fin s m e)) → m ≤ 2 ^ 53
few_digits s zero e t = omega arith
few_digits s (suc m) e t = le_of_lt (bounds s m e t).digits

-- two that compare equal have one value, and one sign if it is not 0
record Alike (t s : Bool) (q m : ℕ) (e : ℤ) : Type 0 where
  pub size : m * up e ≡ q * down e
  pub sign : signed s q ≡ signed t q

zero_of : (q k : ℕ) → q * k ≡ 0 → 0 < k → q ≡ 0
zero_of zero k h p = refl
zero_of (suc q) k h p = let some = mul-pos (zero-lt-suc q) p in absurd (omega arith)

sign_of : (t s : Bool) (l q k : ℕ) → l ≡ q * k → 0 < k → T (beq t s || eqb l 0) → signed s q ≡ signed t q
sign_of true true l q k h p b = refl
sign_of false false l q k h p b = refl
sign_of true false l q k h p b = rw (zero_of q k (sym h ∙ eqb→eq l 0 b) p) refl
sign_of false true l q k h p b = rw (zero_of q k (sym h ∙ eqb→eq l 0 b) p) refl

alike : (y : Float) (t s : Bool) (q m : ℕ) (e : ℤ) → HasValue y t q 1 → eq y (fin s m e) ≡ true → Alike t s q m e
unfolding eq
alike nan t s q m e v h = absurd v
alike (inf u) t s q m e v h = absurd v
alike (fin u a d) t s q m e v h =
    let l = a * up d * down e in
    let r = m * up e * down d in
    let both : T (eqb l r && (beq u s || eqb l 0)) = subst T (sym h) tt in
    let own : a * up d ≡ q * down d = sym (mul-one (a * up d)) ∙ v.1 in
    let whole : l ≡ q * down e * down d = ap (λ (n : ℕ). n * down e) own ∙ mul_right_comm q (down d) (down e) in
    record {
      size =
          eq_of_mul-eq-mul_right (down d) (down_pos d) (m * up e) (q * down e)
          (sym (eqb→eq l r (and_l (eqb l r) (beq u s || eqb l 0) both)) ∙ whole);
      sign =
          rw (sym v.0)
          (sign_of u s l q (down e * down d) (whole ∙ mul_assoc q (down e) (down d)) (mul-pos (down_pos e) (down_pos d))
          (and_r (eqb l r) (beq u s || eqb l 0) both));
    }

cut_off : (s : Bool) (m k : ℕ) → T (fits binary64 (fin s m (negsuc k))) →
    eq (trunc binary64 (fin s m (negsuc k))) (fin s m (negsuc k)) ≡ true → ⊥
cut_off s m k t h =
    let q = m * 1 / 2 ^ suc k in
    let few : q ≤ 2 ^ 53 = le_trans (div-le_self (m * 1) (2 ^ suc k)) (rw mul-one (few_digits s m (negsuc k) t)) in
    no_fraction s m k t q
    (alike _ s s q m (negsuc k) (round_whole binary64 s q few) (rw trunc_is at h)).size

-- ---- what the code finds

-- whatever number compares equal to x
value_is : (y x : Float) (t : Bool) (q : ℕ) → HasValue y t q 1 → eq y x ≡ true → whole_number x ≡ some (signed t q)
value_is y (fin s m e) t q v h =
    let k = alike y t s q m e v h in whole_of_value s m e q k.size ∙ ap some k.sign
value_is (fin u a d) nan t q v h = absurd (unfold eq in true≢false (sym h))
value_is (fin u a d) (inf s) t q v h = absurd (unfold eq in true≢false (sym h))
value_is nan nan t q v h = absurd v
value_is nan (inf s) t q v h = absurd v
value_is (inf u) nan t q v h = absurd v
value_is (inf u) (inf s) t q v h = absurd v

pub found : (z : ℤ) (x : Float) → SFits w32 z → eq (of_int binary64 z) x ≡ true → some z ≡ saturated (whole_number x)
unfolding of_int saturate saturated
found (pos n) x f h =
    let e : min n 2147483647 ≡ n = omega (arith, f.sfits) in
    rw (value_is _ x false n (round_whole binary64 false n (omega (arith, f.sfits))) h, e) refl
found (negsuc n) x f h =
    let e : min n 2147483647 ≡ n = omega (arith, f.sfits) in
    rw (value_is _ x true (suc n) (round_whole binary64 true (suc n) (omega (arith, f.sfits))) h, e) refl

in_range : (s : Bool) (n : ℕ) → cond s (neg_ℤ (pos (min n 2147483648))) (pos (min n 2147483647)) ≡ saturate (signed s n)
unfolding saturate
in_range false n = refl
in_range true zero = refl
in_range true (suc n) = let e : min (suc n) 2147483648 ≡ suc (min n 2147483647) = omega arith in rw e

pub taken : (x : Float) → T (fits binary64 x) → float_is_finite x ≡ true → eq (trunc binary64 x) x ≡ true →
    some (to_signed 31 x) ≡ saturated (whole_number x)
unfolding float_is_finite to_signed saturated
taken nan t f h = absurd (true≢false (sym f))
taken (inf s) t f h = absurd (true≢false (sym f))
taken (fin s m (negsuc k)) t f h = absurd (cut_off s m k t h)
taken (fin s m (pos k)) t f h =
    let n = m * 2 ^ k in
    rw (whole_of_value s m (pos k) n (sym (mul-one n)), div-one n) (ap some (in_range s n))

pub not_finite : (x : Float) → float_is_finite x ≡ false → none ≡ saturated (whole_number x)
unfolding float_is_finite float_value whole_of saturated
not_finite nan f = refl
not_finite (inf s) f = refl
not_finite (fin s m e) f = absurd (true≢false f)

equal_itself : (s : Bool) (m : ℕ) (e : ℤ) → eq (fin s m e) (fin s m e) ≡ true
unfolding eq
equal_itself false m e = rw (eq-eqb (m * up e * down e) _ refl) refl
equal_itself true m e = rw (eq-eqb (m * up e * down e) _ refl) refl

pub not_whole : (x : Float) → T (fits binary64 x) → eq (trunc binary64 x) x ≡ false → none ≡ saturated (whole_number x)
not_whole nan t h = unfold float_value whole_of saturated in refl
not_whole (inf s) t h = unfold float_value whole_of saturated in refl
not_whole (fin s m (pos k)) t h = absurd (true≢false (sym (equal_itself s m (pos k)) ∙ rw (itself s k m t) at h))
not_whole (fin s m (negsuc k)) t h = by_number (whole_number (fin s m (negsuc k))) refl
  where
    by_number : (o : Option ℤ) → whole_number (fin s m (negsuc k)) ≡ o → none ≡ saturated o
    by_number none e = unfold saturated in refl
    by_number (some z) e = absurd (no_fraction s m k t _ (value_of_whole s m (negsuc k) z e).size)

-- ---- between the infinities

pub below_infinity : (x : Float) → lt (of_bits binary64 18442240474082181120) x ≡ true →
    lt x (of_bits binary64 9218868437227405312) ≡ float_is_finite x
unfolding lt of_bits float_is_finite
below_infinity nan h = refl
below_infinity (inf true) h = absurd (true≢false (sym h))
below_infinity (inf false) h = refl
below_infinity (fin s m e) h = refl

pub not_above_infinity : (x : Float) → lt (of_bits binary64 18442240474082181120) x ≡ false →
    lt (of_bits binary64 18442240474082181120) x ≡ float_is_finite x
unfolding lt of_bits float_is_finite
not_above_infinity nan h = refl
not_above_infinity (inf true) h = refl
not_above_infinity (inf false) h = absurd (true≢false h)
not_above_infinity (fin s m e) h = refl
