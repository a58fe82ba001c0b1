-- Row 7; the index found is that of the segment read.
use Rattle.std.proofs.Common.{sym, ◌∙◌, arith}
use Rattle.model.specs.Answer.{row, ◌then◌}
use Rattle.model.proofs.Accepted.{read_is}
use Rattle.rows.proofs.Passing.{accepted}
use Rattle.lookup.proofs.Areas.{least, most, reached_first}
use Rattle.lookup.proofs.locate.Goals as goal

pub returns-then-outside : goal.returns-then-outside
unfolding row ◌then◌
returns-then-outside g c = rw (sym c.outside.ensures ∙ c.if-outside.true)

pub search-requires-clause-most : goal.search-requires-clause-most
search-requires-clause-most g c = most _ _ c.args.curve.now.accepted

pub search-requires-clause-reached : goal.search-requires-clause-reached
search-requires-clause-reached g c =
    reached_first _ _ c.args.curve.now.accepted c.args.area (sym c.outside.ensures ∙ c.if-outside.false)

pub returns : goal.returns
unfolding row ◌then◌
returns g c =
    rw
    (sym c.outside.ensures ∙ c.if-outside.false, read_is (accepted _ _ c.args.curve.now.accepted) c.search.ensures)

pub outside-requires : goal.outside-requires
outside-requires g c = omega (arith, least _ _ c.args.curve.now.accepted)
