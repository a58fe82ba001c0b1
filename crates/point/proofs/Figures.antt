-- The figures of a point within its limits, in 32 bits: slope_size, slope_fits, slope_read, value_read; its slope with the sign
-- changed, negated_fits, negated_is.
-- Assumes nothing.
use Rattle.std.proofs.Common.{◌≡◌, ◌≤◌, pos, ◌-ℤ◌, neg_ℤ, nat_abs, arith, to_z-of_z, w32, SFits, to_z, of_z}
use lib.IntN.{+ℤ_idl}
use mir.Facts.{to_z_pos}
use Rattle.exact.proofs.Magnitude.{size_neg, size_between, sfits_of_size}
use Rattle.model.specs.Points.{slope_most, Point}
use Rattle.model.specs.Inner.{Limits}

module _ {p : Point} (l : Limits p) where
  pub slope_size : nat_abs p.slope ≤ slope_most
  slope_size = size_between p.slope l.slope_low l.slope_high

  pub slope_fits : SFits w32 p.slope
  slope_fits = sfits_of_size w32 p.slope (omega (arith, slope_size))

  pub slope_read : to_z w32 (of_z w32 p.slope) ≡ p.slope
  slope_read = to_z-of_z slope_fits

  pub value_read : to_z w32 p.value ≡ pos p.value
  value_read = to_z_pos w32 (let m = l.value in omega arith)

  pub negated_fits : SFits w32 (neg_ℤ p.slope)
  negated_fits = sfits_of_size w32 (neg_ℤ p.slope) (omega (arith, size_neg p.slope, slope_size))

  pub negated_is : pos 0 -ℤ to_z w32 (of_z w32 p.slope) ≡ neg_ℤ p.slope
  negated_is = rw slope_read (+ℤ_idl _)
