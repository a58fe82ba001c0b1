-- The head and the first i records are written.
use Rattle.std.proofs.Common.{◌≡◌}
use Rattle.shape.specs.Codes.{code_of}
use Rattle.encoding.specs.Inner.{put}
use Rattle.encoding.proofs.Records.{begun}
use Rattle.encoding.proofs.encode.Given as goal

abbrev pub invariant-loop-i : goal.invariant-loop-i
invariant-loop-i g l = l.out ≡ put 0 (begun (g.P.Points.points l.points) (code_of l.fn.shape) l.i) l.fn.out
