-- As many points as n.
use Rattle.std.proofs.Common.{sym}
use Rattle.layout.proofs.Points.{size_of_first}
use Rattle.layout.proofs.RecordsPoints.count.Goals as goal

pub returns : goal.returns
returns c = let r = c.args.self.now in sym (size_of_first r.bytes.now r.n)
