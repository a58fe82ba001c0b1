-- The point at i decides, or the rows of the points after it.
use Rattle.std.proofs.Common.{sym, ◌∙◌, ap, arith}
use Rattle.refusal.specs.Refusal.{checked}
use Rattle.rows.proofs.Faults.{then_gives, then_refused, limits_passed, point_turn, point_end}
use Rattle.rows.proofs.check_points.Goals as goal

pub loop-i-preserved : goal.loop-i-preserved
loop-i-preserved g c =
    let k = c.loop-i.invariant in
    let i = c.loop-i.i in
    let e = sym (c.in_default.ensures i) in
    record {
      none_found = k.none_found;
      in_limits = (limits_passed i _ _ e).area;
      same = sym (then_gives _ e) ∙ point_turn _ _ i _ (omega arith) c.point-p.ensures ∙ k.same;
    }

pub returns-after-loop-i : goal.returns-after-loop-i
returns-after-loop-i g c =
    let k = c.loop-i.invariant in
    ap checked k.none_found ∙ sym (point_end _ _ _ (omega arith)) ∙ k.same

pub returns-in-Err : goal.returns-in-Err
returns-in-Err g c =
    let i = c.loop-i.i in
    rw c.at.ensures
    (sym (then_refused _ (sym (c.in-Err.ensures i))) ∙ point_turn _ _ i _ (omega arith) c.point-p.ensures
    ∙ c.loop-i.invariant.same)
