-- The point at an index has the figures there.
use Rattle.std.proofs.Common.{arith, pos, slice_index_or, to_z-of_z, w32, rules}
use Rattle.points.proofs.Listed.{count_of, point_of_lists}
use Rattle.points.proofs.ListsPoints.point.Goals as goal

pub offset_bounds-self-i : goal.offset_bounds-self-i
offset_bounds-self-i c = let l = c.args.self.now in record { fits = omega (arith, count_of _ _ _ l.values_too l.slopes_too) }

pub offset_bounds-self-i-2 : goal.offset_bounds-self-i-2
offset_bounds-self-i-2 c = let l = c.args.self.now in record { fits = omega (arith, count_of _ _ _ l.values_too l.slopes_too) }

pub offset_bounds-self-i-3 : goal.offset_bounds-self-i-3
offset_bounds-self-i-3 c = let l = c.args.self.now in record { fits = omega (arith, count_of _ _ _ l.values_too l.slopes_too) }

pub bounds-self-i : goal.bounds-self-i
bounds-self-i c = let l = c.args.self.now in omega (arith, count_of _ _ _ l.values_too l.slopes_too)

pub bounds-self-i-2 : goal.bounds-self-i-2
bounds-self-i-2 c = let l = c.args.self.now in omega (arith, count_of _ _ _ l.values_too l.slopes_too)

pub bounds-self-i-3 : goal.bounds-self-i-3
bounds-self-i-3 c = let l = c.args.self.now in omega (arith, count_of _ _ _ l.values_too l.slopes_too)

pub returns : goal.returns
returns c =
    let l = c.args.self.now in
    let slope = slice_index_or l.slopes.now c.args.i (pos 0) in
    rw (point_of_lists _ _ _ l.values_too l.slopes_too c.args.i, to_z-of_z {w = w32} {z = slope} (search rules))
