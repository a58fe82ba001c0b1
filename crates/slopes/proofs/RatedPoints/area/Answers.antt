-- The area at an index is that of the point there.
use Rattle.std.proofs.Common.{ap, sym, arith}
use Rattle.model.specs.Points.{Point}
use Rattle.harmonic.proofs.Rising.{zero_slope_size, zero_slope_at}
use Rattle.slopes.proofs.RatedPoints.area.Goals as goal

pub offset_bounds-self-i : goal.offset_bounds-self-i
offset_bounds-self-i c = record { fits = omega (arith, zero_slope_size _ _ c.args.self.now.values_too) }

pub bounds-self-i : goal.bounds-self-i
bounds-self-i c = omega (arith, zero_slope_size _ _ c.args.self.now.values_too)

pub returns : goal.returns
returns c =
    let e = c.args.self.now.values_too in
    sym (ap (λ (p : Point). p.area) (zero_slope_at _ _ e c.args.i (omega (arith, zero_slope_size _ _ e))))
