-- No row refuses the points to i or the segments between them.
use Rattle.shape.specs.Codes.{code_of}
use Rattle.rows.specs.Inner.{Passing}
use Rattle.rows.proofs.rest_passes.Given as goal

abbrev pub invariant-loop-i : goal.invariant-loop-i
invariant-loop-i g l = Passing (g.P.Points.points l.points) (code_of l.shape) l.i
