-- One test decides.
use Rattle.std.proofs.Common.{lt-ltb, le-ltb, arith, to_z-of_z, w32, pos}
use Rattle.model.specs.Answer.{row, ◌then◌}
use Rattle.slopes.proofs.slope_at.Goals as goal

pub returns-then-figure : goal.returns-then-figure
unfolding row ◌then◌
returns-then-figure c = rw (c.at.ensures, lt-ltb _ _ c.if-figure.true)

pub returns : goal.returns
unfolding row ◌then◌
returns c = rw (le-ltb _ _ c.if-figure.false, to_z-of_z {w = w32} {z = pos c.args.figure} (record { sfits = omega arith }))
