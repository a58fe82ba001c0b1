-- Fractions of whole numbers. That a denominator is above 0 is said beside the fraction (`Proper`), so each operation is a
-- polynomial in numerators and denominators, and comparisons are by cross products.
-- Assumes nothing.
use Rattle.std.specs.Prelude.{◌≡◌, Bool, ◌&&◌, ℤ, pos, ◌+ℤ◌, ◌-ℤ◌, ◌*ℤ◌, ◌≤ℤ◌, ◌<ℤ◌}
use Rattle.std.specs.Int.Signed.{le_z, lt_z}

infix 4 ◌≈ℚ◌ ◌≤ℚ◌ ◌<ℚ◌
infixl 6 ◌+ℚ◌ ◌-ℚ◌
infixl 7 ◌*ℚ◌ ◌/ℚ◌
infix 8 ◌over◌
pub record Fraction : Type 0 where
  pub num : ℤ
  pub den : ℤ

unfoldable pub ◌over◌ : ℤ → ℤ → Fraction
a over b = record { num = a; den = b }

-- a whole number
unfoldable pub whole : ℤ → Fraction
whole a = record { num = a; den = pos 1 }

pub record Proper (x : Fraction) : Type 0 where
  pub above_0 : pos 0 <ℤ x.den

unfoldable pub ◌+ℚ◌ : Fraction → Fraction → Fraction
x +ℚ y = record { num = x.num *ℤ y.den +ℤ y.num *ℤ x.den; den = x.den *ℤ y.den }

unfoldable pub ◌-ℚ◌ : Fraction → Fraction → Fraction
x -ℚ y = record { num = x.num *ℤ y.den -ℤ y.num *ℤ x.den; den = x.den *ℤ y.den }

unfoldable pub ◌*ℚ◌ : Fraction → Fraction → Fraction
x *ℚ y = record { num = x.num *ℤ y.num; den = x.den *ℤ y.den }

-- proper where x is proper and y is above 0
unfoldable pub ◌/ℚ◌ : Fraction → Fraction → Fraction
x /ℚ y = record { num = x.num *ℤ y.den; den = x.den *ℤ y.num }

-- the same number
pub record ◌≈ℚ◌ (x y : Fraction) : Type 0 where
  pub cross : x.num *ℤ y.den ≡ y.num *ℤ x.den

pub record ◌≤ℚ◌ (x y : Fraction) : Type 0 where
  pub cross : (x.num *ℤ y.den) ≤ℤ (y.num *ℤ x.den)

pub record ◌<ℚ◌ (x y : Fraction) : Type 0 where
  pub cross : (x.num *ℤ y.den) <ℤ (y.num *ℤ x.den)

-- the comparisons as tests
unfoldable pub leℚ : Fraction → Fraction → Bool
leℚ x y = le_z (x.num *ℤ y.den) (y.num *ℤ x.den)

unfoldable pub ltℚ : Fraction → Fraction → Bool
ltℚ x y = lt_z (x.num *ℤ y.den) (y.num *ℤ x.den)

unfoldable pub eqℚ : Fraction → Fraction → Bool
eqℚ x y = leℚ x y && leℚ y x
