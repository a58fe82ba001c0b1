-- The seven bytes are the head.
use Rattle.encoding.specs.File.{in_bytes, head_bytes}
use Rattle.encoding.proofs.put_head.Goals as goal

pub returns : goal.returns
unfolding in_bytes head_bytes
returns c = rw c.copy_from_slice.ensures.after
