-- Identities that the tactics prove, one of each kind; edits of them that make them false are tried as must-fail edits.
-- Assumes nothing.
use Rattle.std.specs.Prelude.{◌≡◌, ℕ, ◌+◌, ◌*◌, ℤ, pos, ◌+ℤ◌, ◌-ℤ◌, ◌*ℤ◌}
use Rattle.exact.specs.Fraction.{Fraction, ◌+ℚ◌, ◌-ℚ◌, ◌/ℚ◌, ◌≈ℚ◌}

abbrev pub SquareOfDifference : Type 0
SquareOfDifference =
    (a b : ℤ) → (a -ℤ b) *ℤ (a -ℤ b) ≡ a *ℤ a -ℤ pos 2 *ℤ a *ℤ b +ℤ b *ℤ b

abbrev pub CubeOfSum : Type 0
CubeOfSum =
    (a b : ℕ) → (a + b) * (a + b) * (a + b) ≡ a * a * a + 3 * a * a * b + 3 * a * b * b + b * b * b

abbrev pub QuotientOfSum : Type 0
QuotientOfSum = (x y z : Fraction) → (x -ℚ y) /ℚ z +ℚ y /ℚ z ≈ℚ x /ℚ z
