-- Each turn writes one point more.
use Rattle.std.proofs.Common.{arith}
use Rattle.triples.proofs.OneList.{one_more}
use Rattle.triples.proofs.listed.Goals as goal

pub loop-i-preserved : goal.loop-i-preserved
loop-i-preserved g c = one_more _ _ _ _ c.loop-i.invariant c.point.ensures (omega arith) (omega arith)
