-- The first i points are in the first i entries of each list.
use Rattle.std.proofs.Common.{map}
use Rattle.model.proofs.Filling.{Copied}
use Rattle.points.proofs.fill.Given as goal

abbrev pub invariant-loop-i : goal.invariant-loop-i
invariant-loop-i g l =
    let ps = g.P.Points.points l.points in
    record {
      areas_are : Copied (map (λ p. p.area) ps) l.initial.areas l.areas l.i;
      values_are : Copied (map (λ p. p.value) ps) l.initial.values l.values l.i;
      slopes_are : Copied (map (λ p. p.slope) ps) l.initial.slopes l.slopes l.i;
    }
