-- The first i entries are the first i points.
use Rattle.std.proofs.Common.{◌≡◌, map, take}
use Rattle.point.specs.Inner.{point_of}
use Rattle.triples.proofs.listed.Given as goal

abbrev pub invariant-loop-i : goal.invariant-loop-i
invariant-loop-i g l = map point_of (take l.i l.points) ≡ take l.i (g.P.Points.points l.from)
