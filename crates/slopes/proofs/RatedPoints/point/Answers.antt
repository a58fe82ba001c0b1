-- The point at an index has the area and the value there.
use Rattle.std.proofs.Common.{arith, sym}
use Rattle.harmonic.proofs.Rising.{zero_slope_size, zero_slope_at}
use Rattle.slopes.proofs.RatedPoints.point.Goals as goal

pub offset_bounds-self-i : goal.offset_bounds-self-i
offset_bounds-self-i c = record { fits = omega (arith, zero_slope_size _ _ c.args.self.now.values_too) }

pub offset_bounds-self-i-2 : goal.offset_bounds-self-i-2
offset_bounds-self-i-2 c = record { fits = omega (arith, zero_slope_size _ _ c.args.self.now.values_too) }

pub bounds-self-i : goal.bounds-self-i
bounds-self-i c = omega (arith, zero_slope_size _ _ c.args.self.now.values_too)

pub bounds-self-i-2 : goal.bounds-self-i-2
bounds-self-i-2 c = let r = c.args.self.now in omega (arith, zero_slope_size _ _ r.values_too, r.values_too)

pub returns : goal.returns
returns c =
    let e = c.args.self.now.values_too in
    sym (zero_slope_at _ _ e c.args.i (omega (arith, zero_slope_size _ _ e)))
