-- The area at an index is that of the point there.
use Rattle.std.proofs.Common.{ap, sym, arith}
use Rattle.model.specs.Points.{Point}
use Rattle.points.proofs.Listed.{count_of, point_of_lists}
use Rattle.points.proofs.ListsPoints.area.Goals as goal

pub offset_bounds-self-i : goal.offset_bounds-self-i
offset_bounds-self-i c = let l = c.args.self.now in record { fits = omega (arith, count_of _ _ _ l.values_too l.slopes_too) }

pub bounds-self-i : goal.bounds-self-i
bounds-self-i c = let l = c.args.self.now in omega (arith, count_of _ _ _ l.values_too l.slopes_too)

pub returns : goal.returns
returns c =
    let l = c.args.self.now in
    sym (ap (λ (p : Point). p.area) (point_of_lists _ _ _ l.values_too l.slopes_too c.args.i))
