-- Floor division and the one rounding rule, with its public face: what is known of it outside this crate.
-- Assumes nothing.
use Rattle.std.specs.Prelude.{ℕ, ◌/◌, ◌%◌, ◌≡◌, Bool, cond, ◌⊎◌, T, eqb, ℤ, pos, negsuc, nat_abs, ◌+ℤ◌, ◌-ℤ◌, ◌≤ℤ◌}
use Rattle.exact.specs.Fraction.{Fraction, Proper, ◌over◌, whole, ◌+ℚ◌, ◌-ℚ◌, ◌≈ℚ◌, ◌≤ℚ◌, eqℚ}

-- n / d, rounded down: −(n + 1) is in the block of d numbers that begins at −(n / d + 1) · d
unfoldable pub floor_div : ℤ → ℕ → ℤ
floor_div (pos n) d = pos (n / d)
floor_div (negsuc n) d = negsuc (n / d)

unfoldable pub floor : Fraction → ℤ
floor x = floor_div x.num (nat_abs x.den)

abbrev pub half : Fraction
half = pos 1 over pos 2

unfoldable pub even : ℤ → Bool
even z = eqb (nat_abs z % 2) 0

-- the even one of k and k + 1
unfoldable pub even_from : ℤ → ℤ
even_from k = cond (even k) k (k +ℤ pos 1)

-- document 02, item 6: an exact half goes to the even unit; document 01, "Rounding": any other value to the greatest whole number
-- not above the exact value plus one half
unfoldable pub round : Fraction → ℤ
round x = cond (eqℚ x (whole (floor x) +ℚ half)) (even_from (floor x)) (floor (x +ℚ half))

-- that the floor is one: k is the greatest whole number not above x
pub record Greatest (x : Fraction) (k : ℤ) : Type 0 where
  pub not_above : whole k ≤ℚ x
  pub greatest : (z : ℤ) → whole z ≤ℚ x → z ≤ℤ k

abbrev pub FloorIsGreatest : Type 0
FloorIsGreatest = (x : Fraction) → Proper x → Greatest x (floor x)

-- k is at most one half off x, and even where it is one half off
pub record HalfEven (x : Fraction) (k : ℤ) : Type 0 where
  pub low : x -ℚ half ≤ℚ whole k
  pub high : whole k ≤ℚ x +ℚ half
  pub even_at_half : (whole k ≈ℚ x -ℚ half) ⊎ (whole k ≈ℚ x +ℚ half) → T (even k)

-- the public face: `nearest` says what the rule is, since no other number is so (`unique`); the rest follows from it
pub record Rounding (rnd : Fraction → ℤ) : Type 0 where
  pub nearest : (x : Fraction) → Proper x → HalfEven x (rnd x)
  pub unique : {x : Fraction} {k : ℤ} → Proper x → HalfEven x k → rnd x ≡ k
  pub keeps_order : (x y : Fraction) → Proper x → Proper y → x ≤ℚ y → rnd x ≤ℤ rnd y
  pub alike : {x y : Fraction} → Proper x → Proper y → x ≈ℚ y → rnd x ≡ rnd y
  pub keeps_whole : (z : ℤ) → rnd (whole z) ≡ z
  pub from_even : (z : ℤ) → T (even z) → (x : Fraction) → Proper x → rnd (whole z -ℚ x) ≡ z -ℤ rnd x

abbrev pub RoundIsRounding : Type 0
RoundIsRounding = Rounding round
