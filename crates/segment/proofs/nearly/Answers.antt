-- Between the halves next to k all is rounded to k.
use Rattle.segment.proofs.HalfUnits.{up_read, hundreds_fits, at_half, off_half}
use Rattle.segment.proofs.nearly.Goals as goal

pub overflow_mul-tie : goal.overflow_mul-tie
overflow_mul-tie c = rw (up_read c.args.n c.requires c.floor_div-k.ensures) (hundreds_fits c.args.n c.requires)

pub returns-then-tie-clause-tie : goal.returns-then-tie-clause-tie
returns-then-tie-clause-tie c _ =
    at_half c.args.n c.requires (rw (up_read c.args.n c.requires c.floor_div-k.ensures) at c.if-tie.true)

pub returns-clause-sure : goal.returns-clause-sure
returns-clause-sure c =
    let read = up_read c.args.n c.requires c.floor_div-k.ensures in
    rw read (off_half c.args.n c.requires (rw read at c.if-tie.false))
