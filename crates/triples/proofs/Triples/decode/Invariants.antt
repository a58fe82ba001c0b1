-- The first i entries of each list are the first i points.
use Rattle.triples.specs.Triples.{triple_at, count, taken}
use Rattle.triples.proofs.Decoding.{Decoded}
use Rattle.triples.proofs.Triples.decode.Given as goal

abbrev pub invariant-loop-i : goal.invariant-loop-i
invariant-loop-i l =
    let bytes = l.self.bytes.now in
    Decoded (λ i. taken (triple_at bytes i)) (count bytes) l.areas l.values l.slopes l.i
