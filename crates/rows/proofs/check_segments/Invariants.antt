-- The rows from segment `left` on decide as those from the first.
use Rattle.std.proofs.Common.{◌≡◌}
use Rattle.model.specs.Points.{rule_of}
use Rattle.shape.specs.Codes.{code_of}
use Rattle.rows.specs.Inner.{segments_from}
use Rattle.rows.proofs.check_segments.Given as goal

abbrev pub invariant-loop-left : goal.invariant-loop-left
invariant-loop-left g l =
    let ps = g.P.Points.points l.points in
    let rule = rule_of (code_of l.shape) in
    segments_from ps rule l.left ≡ segments_from ps rule 0
