-- Both slopes are read back from their bits.
use Rattle.std.proofs.Common.{to_z-of_z}
use Rattle.exact.proofs.Tests.{le_z_not_lt_z}
use Rattle.std.proofs.Common.{pos}
use Rattle.shape.proofs.not_below_0.Goals as goal

pub returns-then-d0-lt0 : goal.returns-then-d0-lt0
returns-then-d0-lt0 c =
    rw (le_z_not_lt_z (pos 0) c.args.d0, rw (to_z-of_z c.ranges.d0) at c.if-d0-lt0.true)

pub returns : goal.returns
returns c =
    rw (le_z_not_lt_z (pos 0) c.args.d0, rw (to_z-of_z c.ranges.d0) at c.if-d0-lt0.false, to_z-of_z c.ranges.d1)
