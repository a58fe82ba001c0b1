-- Row 13 is this test.
use Rattle.std.proofs.Common.{eq-eqb, ne_eqb}
use Rattle.model.specs.Answer.{row, ◌then◌}
use Rattle.triples.specs.Triples.{bad_length}
use Rattle.triples.proofs.Triples.new.Goals as goal

pub returns-then-cut_short : goal.returns-then-cut_short
unfolding bad_length row ◌then◌
returns-then-cut_short c = rw (ne_eqb _ 0 c.if-cut_short.true)

pub invariant_of-result : goal.invariant_of-result
unfolding bad_length
invariant_of-result c = record { multiple = rw (eq-eqb _ 0 c.if-cut_short.false) }

pub returns : goal.returns
unfolding bad_length row ◌then◌
returns c = rw (eq-eqb _ 0 c.if-cut_short.false)
