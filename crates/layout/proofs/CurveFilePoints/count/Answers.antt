-- As many points as the count.
use Rattle.std.proofs.Common.{sym, ◌∙◌}
use Rattle.layout.proofs.Points.{size_of_points}
use Rattle.layout.proofs.CurveFilePoints.count.Goals as goal

pub returns : goal.returns
returns c = c.from.ensures ∙ sym (size_of_points c.args.self.now.bytes.now)
