-- The segments in turn: the entries that one leaves reach the next, so it has filled one at least.
use Rattle.std.proofs.Common.{arith}
use Rattle.model.proofs.Accepted.{area_limit}
use Rattle.model.proofs.Filling.{filling_starts}
use Rattle.rows.proofs.Passing.{accepted}
use Rattle.lookup.proofs.Areas.{reached_first}
use Rattle.entries.proofs.fill.Goals as goal

pub loop-index-init : goal.loop-index-init
loop-index-init g c =
    record {
      most = omega arith;
      reached = λ h. reached_first _ _ c.args.curve.now.accepted _ (c.requires.inside 0 h);
      filling = filling_starts _ c.args.out.now;
    }

pub area-requires : goal.area-requires
area-requires g c =
    area_limit (accepted _ _ c.args.curve.now.accepted) _ (c.requires.inside c.loop-index.index (omega arith))
