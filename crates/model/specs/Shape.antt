-- Document 01, "When a segment has its shape". Slopes are compared as fractions, by cross products: of the left slope D₀ / 100
-- and the chord F / h these are h × D₀ and 100 × F.
-- Assumes nothing.
use Rattle.std.specs.Prelude.{Bool, ◌&&◌, ◌||◌, ℤ, pos, ◌-ℤ◌}
use Rattle.exact.specs.Fraction.{Fraction, ◌over◌, whole, leℚ, ltℚ, eqℚ}
use Rattle.model.specs.Points.{gradient, Segment, Shape, rising, convex, mirror_segment, Rule, plain, mirrored}

abbrev pub 0ℚ : Fraction
0ℚ = whole (pos 0)

module _ (h F : ℤ) (d₀ d₁ : Fraction) where
  -- F is above 0 and both slopes are 0 or more; or F is 0 and both slopes are 0
  unfoldable pub rises : Bool
  rises =
      ltℚ 0ℚ (whole F) && leℚ 0ℚ d₀ && leℚ 0ℚ d₁
      || eqℚ (whole F) 0ℚ && eqℚ d₀ 0ℚ && eqℚ d₁ 0ℚ

  -- left slope below chord and chord below right slope, in the order of the report's (TR/10/83) (3.22); or all three are equal
  unfoldable pub bends : Bool
  bends = ltℚ d₀ (F over h) && ltℚ (F over h) d₁ || eqℚ d₀ (F over h) && eqℚ (F over h) d₁

  unfoldable pub fits : Shape → Bool
  fits rising = rises
  fits convex = bends

unfoldable pub has_shape : Shape → Segment → Bool
has_shape shape s =
    fits (pos s.right.area -ℤ pos s.left.area) (pos s.right.value -ℤ pos s.left.value)
    (gradient s.left) (gradient s.right) shape

-- Document 02, item 4: the segment test of a rule
unfoldable pub segment_test : Rule → Segment → Bool
segment_test (plain shape) s = has_shape shape s
segment_test (mirrored shape) s = has_shape shape (mirror_segment s)
