-- Document 02, item 7: the exact value of a figure of the statistics package, and whether it is a whole number. A figure is a
-- binary64 number, in the kit's account of IEEE 754 (`lib.Ieee`): `nan`, an infinity, or `fin negative m e`, which is m × 2^e
-- with its sign; 2^e is `up e / down e`.
-- Assumes nothing.
use Rattle.std.specs.Prelude.{ℕ, ◌*◌, Bool, cond, ℤ, pos, neg_ℤ, Float}
use Rattle.std.proofs.Math.Option.{Option, none, some}
use Rattle.std.specs.Float.{nan, inf, fin}
use Rattle.std.specs.Float.Ieee.{up, down}
use Rattle.exact.specs.Fraction.{Fraction, ◌over◌, whole, eqℚ}
use Rattle.exact.specs.Rounding.{floor}

abbrev pub signed : Bool → ℕ → ℤ
signed negative size = cond negative (neg_ℤ (pos size)) (pos size)

-- infinities and not-a-numbers have none; minus zero is zero
unfoldable pub float_value : Float → Option Fraction
float_value nan = none
float_value (inf negative) = none
float_value (fin negative m e) = some (signed negative (m * up e) over pos (down e))

-- the whole number that a fraction is, if it is one
unfoldable pub whole_of : Option Fraction → Option ℤ
whole_of none = none
whole_of (some v) = cond (eqℚ v (whole (floor v))) (some (floor v)) none

-- the whole number that a binary64 number is, if it is one
abbrev pub whole_number : Float → Option ℤ
whole_number x = whole_of (float_value x)
