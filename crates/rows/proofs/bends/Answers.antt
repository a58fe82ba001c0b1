-- The test of shape 2 is the convex test.
use Rattle.model.specs.Shape.{segment_test}
use Rattle.shape.proofs.Codes.{rule_of_convex}
use Rattle.rows.proofs.bends.Goals as goal

pub returns : goal.returns
unfolding segment_test
returns c = rw rule_of_convex at c.has_shape.ensures
