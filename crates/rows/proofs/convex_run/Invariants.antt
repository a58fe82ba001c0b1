-- The run reaches i.
use Rattle.rows.specs.Inner.{Run}
use Rattle.rows.proofs.convex_run.Given as goal

abbrev pub invariant-loop-i : goal.invariant-loop-i
invariant-loop-i g l = Run (g.P.Points.points l.points) l.i
