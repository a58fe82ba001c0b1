-- The lists' points fit into the list.
use Rattle.triples.proofs.OneList.{points_fit}
use Rattle.triples.proofs.Triples.curve.Goals as goal

pub listed-requires : goal.listed-requires
listed-requires c = points_fit _ _ _ _ c.in_ok-curve.ensures c.requires.room
