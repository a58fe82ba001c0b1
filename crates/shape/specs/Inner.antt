-- What contracts of inner functions cite. Nothing here need be believed: the calls' contracts cite document 01's definitions.
--   SlopesOver    the three slopes of a segment over one denominator; over_most, their largest size
--   in_order      the first of three numbers is below the second and the second below the third, or all three are equal
-- Assumes nothing.
use Rattle.std.specs.Prelude.{◌≡◌, Bool, ◌&&◌, ◌||◌, ℕ, ◌*◌, ℤ, pos, ◌*ℤ◌, ◌-ℤ◌}
use Rattle.std.specs.Int.Signed.{lt_z}
use Rattle.exact.specs.Inner.{eqZ}
use Rattle.model.specs.Points.{gap_most, slope_most, Segment}
use Rattle.shape.specs.declared.Slopes.{Slopes}

-- the slopes of a segment over the denominator 100 h
pub record SlopesOver (s : Segment) (e : Slopes) : Type 0 where
  pub left : e.left ≡ (pos s.right.area -ℤ pos s.left.area) *ℤ s.left.slope
  pub chord : e.chord ≡ pos 100 *ℤ (pos s.right.value -ℤ pos s.left.value)
  pub right : e.right ≡ (pos s.right.area -ℤ pos s.left.area) *ℤ s.right.slope

-- h times a slope; of the chord 100 times a value, which is as much
abbrev pub over_most : ℕ
over_most = gap_most * slope_most

abbrev pub in_order : ℤ → ℤ → ℤ → Bool
in_order a b c = lt_z a b && lt_z b c || eqZ a b && eqZ b c
