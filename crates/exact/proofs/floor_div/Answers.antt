-- `exact::floor_div` meets its contract.
-- Assumes nothing.
use mathlib.Core.Path.{◌≡◌, sym, ◌∙◌, ap}
use Prim.Native.Nat.{ℕ, ◌*◌, ◌/◌, ◌≤◌}
use native.Mathlib.Nat.{div-le_self}
use native.Mathlib.Omega.{arith}
use lib.IntN.{ℤ, pos, nat_abs, ◌+ℤ◌, ◌-ℤ◌, +ℤ_comm}
use mir.Syntax.{w32}
use mir.Val.{SFits, to_z, of_z}
use mir.Facts.{to_z-of_z, to_z_pos}
use Rattle.exact.specs.Rounding.{floor_div}
use Rattle.exact.proofs.Order as Z
use Rattle.exact.proofs.Floor.{floor_div_above}
use Rattle.exact.proofs.Magnitude.{size_+, size--, sfits_of_size, nonneg_above}
use Rattle.exact.proofs.Signed.{cast-of-natural}
use Rattle.exact.proofs.floor_div.Goals as goal
use Rattle.exact.proofs.floor_div.Goals.{Start}

module _ (c : Start) where
  abbrev n : ℤ
  n = c.args.n

  abbrev d : ℕ
  d = c.args.d

  abbrev above : ℤ
  above = pos (1000000 * d) +ℤ n

  above_size : nat_abs above ≤ 2000000 * d
  above_size = omega (arith, size_+ (pos (1000000 * d)) n, c.requires.size)

  above_fits : SFits w32 above
  above_fits = sfits_of_size w32 above (omega (arith, above_size, c.requires.small))

  natural : above ≡ pos (nat_abs above)
  natural = Z.natural_of_nonneg (nonneg_above (1000000 * d) n c.requires.size)

  -- as the code adds them
  added : to_z w32 (of_z w32 n) +ℤ to_z w32 (1000000 * d) ≡ above
  added =
      let m : to_z w32 (1000000 * d) ≡ pos (1000000 * d) = to_z_pos w32 (omega (arith, c.requires.small)) in
      rw (to_z-of_z c.ranges.n, m) (+ℤ_comm n (pos (1000000 * d)))

  abbrev quotient : ℕ
  quotient = nat_abs above / d

  quotient_size : quotient ≤ 2000000000
  quotient_size = omega (arith, div-le_self (nat_abs above) d, above_size, c.requires.small)

  quotient_read : to_z w32 quotient ≡ pos quotient
  quotient_read = to_z_pos w32 (omega (arith, quotient_size))

  result_fits : SFits w32 (pos quotient -ℤ pos 1000000)
  result_fits = sfits_of_size w32 _ (omega (arith, size-- (pos quotient) (pos 1000000), quotient_size))

  floor_is : pos quotient -ℤ pos 1000000 ≡ floor_div n d
  unfolding floor_div
  floor_is = ap (λ z. floor_div z d -ℤ pos 1000000) (sym natural) ∙ sym (floor_div_above (pos 1000000) n c.requires.above_0)

  -- as the code takes the million off
  result_read : to_z w32 (of_z w32 (to_z w32 quotient -ℤ pos 1000000)) ≡ floor_div n d
  result_read = rw quotient_read (to_z-of_z result_fits ∙ floor_is)

pub overflow_mul-above : goal.overflow_mul-above
overflow_mul-above c =
    omega (arith, c.requires.small)

pub overflow_cast-above : goal.overflow_cast-above
overflow_cast-above c =
    omega (arith, c.requires.small)

pub overflow_add-above : goal.overflow_add-above
overflow_add-above c =
    rw (added c) (above_fits c)

pub overflow_cast-result : goal.overflow_cast-result
overflow_cast-result c =
    rw (added c, to_z-of_z (above_fits c)) (cast-of-natural tt (above_fits c) (natural c))

pub nonzero_div-result : goal.nonzero_div-result
nonzero_div-result c =
    c.requires.above_0

pub overflow_cast-result-2 : goal.overflow_cast-result-2
overflow_cast-result-2 c =
    rw (added c, to_z-of_z (above_fits c)) (sfits_of_size w32 (pos (quotient c)) (omega (arith, quotient_size c)))

pub overflow_sub-result : goal.overflow_sub-result
overflow_sub-result c =
    rw (added c, to_z-of_z (above_fits c), quotient_read c) (result_fits c)

pub returns : goal.returns
returns c =
    rw (added c, to_z-of_z (above_fits c)) (result_read c)
