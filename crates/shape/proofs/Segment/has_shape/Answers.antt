-- The test of each shape; that of a mirrored one by the mirrored points, or by the slopes from right to left.
use Rattle.std.proofs.Common.{◌≡◌, sym, ◌∙◌, ap}
use Rattle.model.specs.Shape.{segment_test}
use Rattle.point.specs.Inner.{segment_of}
use Rattle.shape.specs.Codes.{code_of}
use Rattle.shape.proofs.Codes.{rule_of_rising, rule_of_convex, rule_of_concave}
use Rattle.shape.proofs.Figures.{left_read, chord_read, right_read}
use Rattle.shape.proofs.Tests.{falling_test, convex_test, concave_test}
use Rattle.shape.proofs.Segment.has_shape.Goals as goal

pub returns-in-Rising : goal.returns-in-Rising
unfolding segment_test
returns-in-Rising c = rw (c.in-Rising.is, rule_of_rising) c.rises.ensures

pub returns-in-Convex : goal.returns-in-Convex
unfolding segment_test
returns-in-Convex c =
    let n = c.args.self.neighbours in
    let k = c.slopes-e.ensures in
    rw (c.in-Convex.is, rule_of_convex)
    (rw (left_read n k, chord_read n k, right_read n k) at c.bends.ensures ∙ sym (convex_test n k))

-- No step is cited by its name, so that an edit of the arm is refused for its value.
pub returns-in-Falling : goal.returns-in-Falling
returns-in-Falling c =
    let code : code_of c.args.shape ≡ 3 = ap code_of c.in-Falling.is in
    let test = falling_test (segment_of c.args.self.left c.args.self.right) in
    cc

pub returns-in-Concave : goal.returns-in-Concave
unfolding segment_test
returns-in-Concave c =
    let n = c.args.self.neighbours in
    let k = c.slopes-e-in-Concave.ensures in
    rw (c.in-Concave.is, rule_of_concave)
    (rw (left_read n k, chord_read n k, right_read n k) at c.bends-in-Concave.ensures ∙ sym (concave_test n k))
