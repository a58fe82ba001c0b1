-- The segment at `left` decides, or the rows of the segments after it.
use Rattle.std.proofs.Common.{sym, ◌∙◌, arith, add-one}
use Rattle.model.specs.Answer.{row, ◌then◌}
use Rattle.model.specs.Points.{rule_of}
use Rattle.model.specs.Inner.{Neighbours}
use Rattle.model.proofs.Accepted.{neighbours_of_rows}
use Rattle.model.proofs.Indexed.{chained_at}
use Rattle.shape.specs.Codes.{code_of}
use Rattle.rows.proofs.Faults.{segment_turn, segment_end}
use Rattle.rows.proofs.check_segments.Goals as goal

pub invariant_of-segment : goal.invariant_of-segment
invariant_of-segment g c =
    let n = neighbours_of_rows _ c.requires.count.least c.requires.points_pass in
    record {
      neighbours =
          rw (c.point.ensures, c.point-in-loop-left.ensures, add-one)
          (chained_at Neighbours (λ s g. g.ordered) n c.loop-left.left (omega arith));
    }

pub returns-then-not-shaped : goal.returns-then-not-shaped
unfolding row ◌then◌
returns-then-not-shaped g c =
    rw c.at.ensures
    (rw c.if-not-shaped.true at
    (segment_turn _ (rule_of (code_of c.args.shape)) c.loop-left.left _ _ (omega arith)
    c.point.ensures c.point-in-loop-left.ensures c.has_shape-shaped.ensures)
    ∙ c.loop-left.invariant)

pub loop-left-preserved : goal.loop-left-preserved
unfolding row ◌then◌
loop-left-preserved g c =
    rw c.if-not-shaped.false at
    (segment_turn _ (rule_of (code_of c.args.shape)) c.loop-left.left _ _ (omega arith)
    c.point.ensures c.point-in-loop-left.ensures c.has_shape-shaped.ensures)
    ∙ c.loop-left.invariant

pub returns : goal.returns
returns g c = sym (segment_end _ _ _ (omega arith)) ∙ c.loop-left.invariant
