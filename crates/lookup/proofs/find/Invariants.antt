-- The area at i is not above the area read.
use Rattle.model.specs.Inner.{areas_of, Reached}
use Rattle.lookup.proofs.find.Given as goal

abbrev pub invariant-loop-i : goal.invariant-loop-i
invariant-loop-i g l = Reached (areas_of (g.P.Points.points l.points)) l.i l.area
