-- As many points as areas.
use Rattle.std.proofs.Common.{sym}
use Rattle.harmonic.proofs.Rising.{zero_slope_size}
use Rattle.slopes.proofs.RatedPoints.count.Goals as goal

pub returns : goal.returns
returns c = sym (zero_slope_size _ _ c.args.self.now.values_too)
