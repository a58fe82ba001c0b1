-- The index found is that of the segment read.
use Rattle.std.proofs.Common.{sym}
use Rattle.model.proofs.Accepted.{read_is}
use Rattle.rows.proofs.Passing.{accepted}
use Rattle.lookup.proofs.Areas.{most, reached_first}
use Rattle.lookup.proofs.factor.Goals as goal

pub search-requires-clause-most : goal.search-requires-clause-most
search-requires-clause-most g c = most _ _ c.args.curve.now.accepted

pub search-requires-clause-reached : goal.search-requires-clause-reached
search-requires-clause-reached g c = reached_first _ _ c.args.curve.now.accepted c.args.area c.requires

pub factor_at-requires-clause-index : goal.factor_at-requires-clause-index
factor_at-requires-clause-index g c = sym (read_is (accepted _ _ c.args.curve.now.accepted) c.search.ensures)
