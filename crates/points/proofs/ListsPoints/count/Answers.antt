-- As many points as areas.
use Rattle.std.proofs.Common.{sym}
use Rattle.points.proofs.Listed.{count_of}
use Rattle.points.proofs.ListsPoints.count.Goals as goal

pub returns : goal.returns
returns c = let l = c.args.self.now in sym (count_of _ _ _ l.values_too l.slopes_too)
