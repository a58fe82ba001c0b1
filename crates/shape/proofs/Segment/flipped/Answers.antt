-- The mirrored points rise by what the value falls here, with the same slopes.
use Rattle.std.proofs.Common.{refl, to_z-of_z}
use Rattle.model.specs.Points.{mirror, gradient}
use Rattle.model.specs.Shape.{has_shape}
use Rattle.point.proofs.Figures.{negated_fits, negated_is}
use Rattle.shape.proofs.Tests.{mirrored_rise}
use Rattle.shape.proofs.Segment.flipped.Goals as goal

pub returns : goal.returns
unfolding has_shape mirror gradient
returns c =
    let n = c.args.self.neighbours in
    rw
    (negated_is n.left, negated_is n.right, to_z-of_z (negated_fits n.left), to_z-of_z (negated_fits n.right), mirrored_rise n)
    refl
