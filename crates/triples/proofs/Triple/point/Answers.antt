-- The first figure that is not whole decides, or all three are taken.
use Rattle.std.proofs.Common.{sym, w32, to_z-of_z, rules}
use Rattle.triples.proofs.Taking.{no_area, no_value, no_slope, all_taken}
use Rattle.triples.proofs.Triple.point.Goals as goal

pub returns-in_err-area : goal.returns-in_err-area
returns-in_err-area c = rw c.from_residual.ensures (no_area _ _ _ (sym c.in_err-area.ensures))

pub returns-in_err-value : goal.returns-in_err-value
returns-in_err-value c = rw c.from_residual-in_err-value.ensures (no_value _ _ _ (sym c.in_err-value.ensures))

pub returns-in_err-slope : goal.returns-in_err-slope
returns-in_err-slope c = rw c.from_residual-in_err-slope.ensures (no_slope _ _ _ (sym c.in_err-slope.ensures))

pub returns : goal.returns
returns c =
    rw (
      c.cast_unsigned.ensures,
      c.cast_unsigned-2.ensures,
      to_z-of_z {w = w32} {z = c.in_ok-area.area} (search rules),
      to_z-of_z {w = w32} {z = c.in_ok-value.value} (search rules),
      to_z-of_z {w = w32} {z = c.in_ok-slope.slope} (search rules),
    )
    (all_taken _ _ _ (sym c.in_ok-area.ensures) (sym c.in_ok-value.ensures) (sym c.in_ok-slope.ensures))
