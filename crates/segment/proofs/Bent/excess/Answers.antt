-- w w divided by W h, at once or shared out; nothing where w is 0.
use Rattle.std.proofs.Common.{arith}
use Rattle.segment.proofs.Sizes.{denominator_size, shared, excess_divided}
use Rattle.segment.proofs.Bent.excess.Goals as goal

pub overflow_mul-c-2 : goal.overflow_mul-c-2
overflow_mul-c-2 c = let k = c.args.self.sizes in rw (← k.sum) (omega (arith, denominator_size k))

pub returns-then-self-lt-LARGE : goal.returns-then-self-lt-LARGE
returns-then-self-lt-LARGE c =
    let k = c.args.self.sizes in rw (← k.sum) (excess_divided k (omega (arith, c.if-w-eq0.false)))

pub share_by-requires : goal.share_by-requires
share_by-requires c =
    let k = c.args.self.sizes in
    rw (← k.sum) (shared k (omega (arith, c.if-self-lt-LARGE.false)) (omega (arith, c.if-w-eq0.false)))
