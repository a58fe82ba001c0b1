-- Mirrored points keep their limits.
use Rattle.model.proofs.Mirror.{mirror_neighbours}
use Rattle.shape.proofs.Segment.mirror.Goals as goal

pub invariant_of-result : goal.invariant_of-result
invariant_of-result c =
    record { neighbours = rw (c.mirror.ensures, c.mirror-2.ensures) (mirror_neighbours c.args.self.neighbours) }
