-- A slope within its limits can change its sign.
use Rattle.std.proofs.Common.{to_z-of_z}
use Rattle.model.specs.Points.{mirror}
use Rattle.point.proofs.Figures.{negated_fits, negated_is}
use Rattle.point.proofs.Point.mirror.Goals as goal

pub overflow_sub-result-2 : goal.overflow_sub-result-2
overflow_sub-result-2 c = rw (negated_is c.requires) (negated_fits c.requires)

pub returns : goal.returns
unfolding mirror
returns c = rw (negated_is c.requires, to_z-of_z (negated_fits c.requires))
