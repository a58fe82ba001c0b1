-- w without its last 5 bits, and W h without its last 10.
use Rattle.std.proofs.Common.{arith}
use Rattle.exact.proofs.Magnitude.{product_size}
use Rattle.segment.proofs.Sizes.{w_most, w_most_size, leads}
use Rattle.segment.proofs.Bent.leading.Goals as goal

pub overflow_mul-result : goal.overflow_mul-result
overflow_mul-result c =
    let k = c.args.self.sizes in
    let most = w_most k in
    let size = w_most_size k in
    record { fits = product_size 32 32 (omega arith) (omega arith) }

pub returns : goal.returns
returns c = leads c.args.self.sizes c.requires
