-- Whole numbers of any size against the limits, and the same numbers brought into range.
--   capped            a natural number: as it is, or beyond every limit
--   area_alike, value_alike, slope_alike    rows 3, 4 and 5 say of both the same
--   natural_of_limit, slope_of_limit        within the limits the two are the same number
-- Assumes nothing.
use mathlib.Core.Path.{◌≡◌, refl, sym, ◌∙◌, ap, subst}
use mathlib.Core.Bool.{Bool, true}
use mathlib.Core.Logic.{◌⊎◌, inl, inr}
use mathlib.Core.Option.{Option, none, some}
use Prim.Native.Nat.{ℕ, ◌≤◌, ◌<◌, min}
use native.Mathlib.Omega.{arith}
use borrow.Author.Tests.{lt-ltb}
use lib.IntN.{ℤ, pos, negsuc, neg_ℤ}
use lib.Signed.{◌≤ℤ◌}
use Rattle.exact.proofs.Tests.{compare}
use Rattle.model.specs.Check.{bad_area, bad_value, bad_slope}
use Rattle.binary64.specs.Inner.{saturate}
use Rattle.triples.specs.Triples.{or_negative, natural}
use Rattle.std.specs.Int.{w32, cast_unsigned}

capped : (n : ℕ) → ((n ≤ 2147483647) × (min n 2147483647 ≡ n)) ⊎ ((2147483647 < n) × (min n 2147483647 ≡ 2147483647))
capped n = elim (compare n 2147483647) [
  | inl h ↦ let small = h.0 in inl (small, omega arith)
  | inr h ↦ let large = h.0 in inr (large, omega arith)
]

-- ---- unsigned figures

-- a test that holds of all numbers above 200,000 says the same of both
module _ (bad : ℕ → Bool) (beyond : (n : ℕ) → 200000 < n → bad n ≡ true) where
  unsigned_alike : (z : ℤ) → or_negative bad z ≡ bad (cast_unsigned w32 (saturate z))
  unfolding or_negative saturate
  unsigned_alike (negsuc n) = sym (beyond _ (omega arith))
  unsigned_alike (pos n) = elim (capped n) [
    | inl h ↦ ap bad (sym h.1)
    | inr h ↦ beyond n (omega (arith, h.0)) ∙ sym (ap bad h.1 ∙ beyond 2147483647 (omega arith))
  ]

large_area : (before : Option ℕ) (n : ℕ) → 200000 < n → bad_area before n ≡ true
unfolding bad_area
large_area none n h = lt-ltb 20000 n (omega arith)
large_area (some before) n h = rw (lt-ltb 20000 n (omega arith))

large_value : (n : ℕ) → 200000 < n → bad_value n ≡ true
unfolding bad_value
large_value n h = lt-ltb 200000 n h

pub area_alike : (before : Option ℕ) (z : ℤ) → or_negative (bad_area before) z ≡ bad_area before (cast_unsigned w32 (saturate z))
area_alike before z = unsigned_alike (bad_area before) (large_area before) z

pub value_alike : (z : ℤ) → or_negative bad_value z ≡ bad_value (cast_unsigned w32 (saturate z))
value_alike z = unsigned_alike bad_value large_value z

pub natural_of_limit : (z : ℤ) → cast_unsigned w32 (saturate z) ≤ 200000 → cast_unsigned w32 (saturate z) ≡ natural z
unfolding natural saturate
natural_of_limit (negsuc n) h = absurd (omega arith)
natural_of_limit (pos n) h = elim (capped n) [
  | inl k ↦ k.1
  | inr k ↦ absurd (omega (arith, k.1))
]

-- ---- slopes

-- a slope is as it was, or beyond its limits on the same side
data Saturated : ℤ → ℤ → Type 0 where
  same : (z : ℤ) → Saturated z z
  above : (n : ℕ) → 2147483647 < n → Saturated (pos n) (pos 2147483647)
  below : (n : ℕ) → 2147483647 < n → Saturated (negsuc n) (negsuc 2147483647)

saturate_is : (z : ℤ) → Saturated z (saturate z)
unfolding saturate
saturate_is (pos n) = elim (capped n) [
  | inl h ↦ subst (λ (k : ℕ). Saturated (pos n) (pos k)) (sym h.1) (same (pos n))
  | inr h ↦ subst (λ (k : ℕ). Saturated (pos n) (pos k)) (sym h.1) (above n h.0)
]
saturate_is (negsuc n) = elim (capped n) [
  | inl h ↦ subst (λ (k : ℕ). Saturated (negsuc n) (negsuc k)) (sym h.1) (same (negsuc n))
  | inr h ↦ subst (λ (k : ℕ). Saturated (negsuc n) (negsuc k)) (sym h.1) (below n h.0)
]

slope_alike_of : {z c : ℤ} → Saturated z c → bad_slope z ≡ bad_slope c
unfolding bad_slope
slope_alike_of (same z) = refl
slope_alike_of (above n h) = lt-ltb 10000 n (omega arith)
slope_alike_of (below n h) = rw (lt-ltb 9999 n (omega arith))

pub slope_alike : (z : ℤ) → bad_slope z ≡ bad_slope (saturate z)
slope_alike z = slope_alike_of (saturate_is z)

slope_of : {z c : ℤ} → Saturated z c → neg_ℤ (pos 10000) ≤ℤ c → c ≤ℤ pos 10000 → c ≡ z
slope_of (same z) low high = refl
slope_of (above n h) low high = absurd high.le
slope_of (below n h) low high = absurd low.le

pub slope_of_limit : (z : ℤ) → neg_ℤ (pos 10000) ≤ℤ saturate z → saturate z ≤ℤ pos 10000 → saturate z ≡ z
slope_of_limit z = slope_of (saturate_is z)
