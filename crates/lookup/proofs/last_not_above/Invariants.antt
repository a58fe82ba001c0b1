-- `last` is such an index, and a step after it is above the area read, or is the next to be looked at.
use Rattle.model.specs.Inner.{areas_of}
use Rattle.model.proofs.Search.{Looking}
use Rattle.lookup.proofs.last_not_above.Given as goal

abbrev pub invariant-loop-i : goal.invariant-loop-i
invariant-loop-i g l = Looking (areas_of (g.P.Points.points l.points)) l.step l.end l.area l.last l.i
