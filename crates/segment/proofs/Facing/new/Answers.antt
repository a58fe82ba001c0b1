-- The mirror's mirror is the segment.
use Rattle.std.proofs.Common.{arith}
use Rattle.segment.proofs.Mirrored.{segment_twice}
use Rattle.segment.proofs.Facing.new.Goals as goal

pub returns-in-Falling-clause-segment : goal.returns-in-Falling-clause-segment
returns-in-Falling-clause-segment c = grind (arith, segment_twice c.args.s.neighbours)
