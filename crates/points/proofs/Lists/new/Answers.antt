-- Row 1 decides; where it is passed, the lists are equally long.
use Rattle.std.proofs.Common.{sym, ◌∙◌}
use Rattle.model.specs.Answer.{row, ◌then◌}
use Rattle.model.proofs.Rows.{alike_of_row_1}
use Rattle.points.proofs.Lists.new.Goals as goal

pub invariant_of-result : goal.invariant_of-result
invariant_of-result c =
    let k = alike_of_row_1 _ _ _ (sym c.lengths_differ.ensures ∙ c.if-lengths_differ.false) in
    record { values_too = k.values_too; slopes_too = k.slopes_too }

pub returns-then-lengths_differ : goal.returns-then-lengths_differ
unfolding row ◌then◌
returns-then-lengths_differ c = rw (sym c.lengths_differ.ensures ∙ c.if-lengths_differ.true)

pub returns : goal.returns
unfolding row ◌then◌
returns c = rw (sym c.lengths_differ.ensures ∙ c.if-lengths_differ.false)
