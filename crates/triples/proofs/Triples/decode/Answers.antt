-- Each turn decodes one point more, or finds one that is not taken.
use Rattle.std.proofs.Common.{◌≡◌, ◌∙◌, ap, arith, to_z-of_z, w32, rules}
use Rattle.triples.specs.Triples.{Triple, taken}
use Rattle.triples.specs.Inner.{ranged}
use Rattle.triples.proofs.Decoding.{decoded_more, decoded_all, decoded_ends}
use Rattle.triples.proofs.Triples.decode.Goals as goal

pub returns-in_default : goal.returns-in_default
returns-in_default c =
    let e = ap (λ (t : Triple). ranged (taken t)) c.triple.ensures in
    c.first.ensures ∙ decoded_ends _ _ c.loop-i.invariant (omega arith) (c.in_default.ensures ∙ e)

pub loop-i-preserved : goal.loop-i-preserved
loop-i-preserved c =
    let e = ap (λ (t : Triple). ranged (taken t)) c.triple.ensures in
    rw (to_z-of_z {w = w32} {z = c.in-Some.p.slope} (search rules))
    (decoded_more _ _ c.loop-i.invariant _ (omega arith) (omega arith) (omega arith) (omega arith) (c.in-Some.ensures ∙ e))

pub returns : goal.returns
returns c =
    let e : c.count-n.result ≡ c.loop-i.i = omega arith in
    c.first-2.ensures ∙ rw e (decoded_all _ _ c.loop-i.invariant (omega arith))
