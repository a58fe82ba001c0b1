-- Each figure is 8 bytes further.
use Rattle.std.proofs.Common.{refl}
use Rattle.triples.specs.Triples.{triple_at}
use Rattle.triples.proofs.Triples.triple.Goals as goal

pub returns : goal.returns
unfolding triple_at
returns c = rw (c.figure.ensures, c.figure-2.ensures, c.figure-3.ensures) refl
