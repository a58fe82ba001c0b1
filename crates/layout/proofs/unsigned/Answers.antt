-- The number of four bytes is a sum.
use Rattle.std.proofs.Common.{arith}
use Rattle.layout.proofs.Numbers.{four_bytes}
use Rattle.layout.proofs.unsigned.Goals as goal

pub returns : goal.returns
returns c = omega (arith, c.from_le_bytes.ensures, four_bytes c.args.bytes.now c.args.at)
