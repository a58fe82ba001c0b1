-- What contracts of inner functions cite: one segment in plain numbers. Nothing here need be believed: the calls' contracts cite
-- the definitions of documents 01 and 02.
--   Distances        t and u, of an area from the two ends of a segment
--   part             A of the rising curve, from one end; whole_part is B
--   rising_value     the value of the rising curve
--   BentAt           the figures of an area of a convex segment
--   Excess           how far the curve is above its left tangent, in hundredths: a quotient and what is left
--   Large, Around    whether that quotient's numbers may pass 64 bits; a number less than one off it
--   hundredths_of    the left value, the left tangent and what is above it, in whole hundredths
--   About, HalfWay   less than one hundredth off n hundredths; half way between two numbers of units
--   as_filed         the segment that was filed, from the one that is read
--   Weights, RisingInput, BentInput, SumInput    what `part`, `rising`, `excess` and `hundredths` ask
-- Assumes nothing.
use Rattle.std.specs.Prelude.{◌≡◌, ℕ, ◌+◌, ◌-◌, ◌*◌, ◌^◌, ◌≤◌, ◌<◌, ℤ, pos, nat_abs, ◌+ℤ◌, ◌-ℤ◌, ◌*ℤ◌}
use Rattle.exact.specs.Fraction.{Fraction, Proper, ◌over◌, ◌<ℚ◌}
use Rattle.exact.specs.Inner.{Divided}
use Rattle.model.specs.Points.{gap_most, value_most, slope_most, Segment, mirror_segment}
use Rattle.shape.specs.Inner.{over_most}
use Rattle.shape.specs.declared.Shape as code
use Rattle.shape.specs.declared.Shape.TheVariants.{Rising, Convex, Falling, Concave}

pub record Distances (t u : ℕ) : Type 0 where
  pub most : t + u ≤ gap_most
  pub least : 0 < t + u

-- ---- rising

abbrev pub part : (t u G E : ℕ) → ℕ
part t u G E = t * (G * t + E * u)

pub record Weights (t u G E : ℕ) : Type 0 where
  pub near : t + u ≤ gap_most
  pub first : G ≤ over_most
  pub second : E ≤ over_most

-- A from the left end and A from the right end
module _ (t u F D₀ D₁ : ℕ) where
  abbrev pub left_part : ℕ
  left_part = part t u (100 * F) ((t + u) * D₀)

  abbrev pub right_part : ℕ
  right_part = part u t (100 * F) ((t + u) * D₁)

  abbrev pub whole_part : ℕ
  whole_part = left_part + right_part

abbrev pub rising_value : (t u left F D₀ D₁ : ℕ) → Fraction
rising_value t u left F D₀ D₁ =
    (pos left *ℤ pos (whole_part t u F D₀ D₁) +ℤ pos (left_part t u F D₀ D₁ * F)) over pos (whole_part t u F D₀ D₁)

pub record RisingInput (t u left F D₀ D₁ : ℕ) : Type 0 where
  pub distances : Distances t u
  pub value : left ≤ value_most
  pub rise : F ≤ value_most
  pub left_slope : D₀ ≤ slope_most
  pub right_slope : D₁ ≤ slope_most
  pub above_0 : 0 < whole_part t u F D₀ D₁

-- ---- convex

pub record BentAt (s : Segment) (x t u h a b : ℕ) : Type 0 where
  pub t_is : t ≡ x - s.left.area
  pub u_is : u ≡ s.right.area - x
  pub h_is : h ≡ s.right.area - s.left.area
  pub a_is : pos a ≡
      (pos s.right.area -ℤ pos s.left.area) *ℤ s.right.slope
      -ℤ pos 100 *ℤ (pos s.right.value -ℤ pos s.left.value)
  pub b_is : pos b ≡
      pos 100 *ℤ (pos s.right.value -ℤ pos s.left.value)
      -ℤ (pos s.right.area -ℤ pos s.left.area) *ℤ s.left.slope

-- w² / (W h), where w = b t and W = a u + b t; on a straight line nothing
pub record Excess (t u h a b q r : ℕ) : Type 0 where
  pub divided : 0 < a * u + b * t → Divided (b * t * (b * t)) ((a * u + b * t) * h) q r
  pub none : b * t ≡ 0 → (q ≡ 0) × (r ≡ 0)

-- w² may pass 64 bits
pub record Large (t h b : ℕ) : Type 0 where
  pub large : 2 ^ 32 ≤ b * h
  pub some : 0 < t

-- m is less than one off n / c
pub record Around (n c m : ℕ) : Type 0 where
  pub low : m * c < n + c
  pub high : n < (m + 1) * c

abbrev pub hundredths_of : (left slope : ℤ) (t above : ℕ) → ℤ
hundredths_of left slope t above = pos 100 *ℤ left +ℤ slope *ℤ pos t +ℤ pos above

-- v is less than one hundredth off n hundredths
pub record About (n : ℤ) (v : Fraction) : Type 0 where
  pub proper : Proper v
  pub low : (n -ℤ pos 1) over pos 100 <ℚ v
  pub high : v <ℚ (n +ℤ pos 1) over pos 100

-- n hundredths are half a unit below k
pub record HalfWay (n k : ℤ) : Type 0 where
  pub half : n +ℤ pos 50 ≡ pos 100 *ℤ k
  pub size : nat_abs k ≤ 900001

pub record BentInput (t u h a b : ℕ) : Type 0 where
  pub distances : Distances t u
  pub sum : h ≡ t + u
  pub above : a ≤ 2 * over_most
  pub below : b ≤ 2 * over_most

pub record SumInput (left : ℕ) (slope : ℤ) (t above : ℕ) : Type 0 where
  pub value : left ≤ value_most
  pub steep : nat_abs slope ≤ slope_most
  pub near : t ≤ gap_most
  pub size : above ≤ 2 * over_most + 1

-- ---- all shapes

-- the segment that was filed, from the one that is read: the mirror's mirror
abbrev pub as_filed : code.Shape → Segment → Segment
as_filed Rising s = s
as_filed Convex s = s
as_filed Falling s = mirror_segment s
as_filed Concave s = mirror_segment s
