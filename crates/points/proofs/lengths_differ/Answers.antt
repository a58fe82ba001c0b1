-- Each test is one of row 1's.
use Rattle.std.proofs.Common.{eq-eqb, ne_eqb}
use Rattle.model.specs.Check.{lengths_differ}
use Rattle.points.proofs.lengths_differ.Goals as goal

pub returns-then-areas-values : goal.returns-then-areas-values
unfolding lengths_differ
returns-then-areas-values c = rw (ne_eqb _ _ c.if-areas-values.true)

pub returns-else-areas-values : goal.returns-else-areas-values
unfolding lengths_differ
returns-else-areas-values c = rw (eq-eqb _ _ c.if-areas-values.false)
