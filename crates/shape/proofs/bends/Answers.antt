-- The slopes are read back from their bits.
use Rattle.std.proofs.Common.{sym, ◌∙◌, eq-eqb, ne_eqb}
use Rattle.shape.proofs.Tests.{order_test}
use Rattle.shape.proofs.bends.Goals as goal

pub returns-then-left-chord : goal.returns-then-left-chord
returns-then-left-chord c =
    sym (order_test c.ranges.left c.ranges.chord c.ranges.right ∙ rw c.if-left-chord.true)

pub returns-then-left-chord-2 : goal.returns-then-left-chord-2
returns-then-left-chord-2 c =
    sym (order_test c.ranges.left c.ranges.chord c.ranges.right ∙ rw
    (c.if-left-chord.false, ne_eqb _ _ c.if-left-chord-2.true))

pub returns : goal.returns
returns c =
    sym (order_test c.ranges.left c.ranges.chord c.ranges.right ∙ rw
    (c.if-left-chord.false, eq-eqb _ _ c.if-left-chord-2.false))
