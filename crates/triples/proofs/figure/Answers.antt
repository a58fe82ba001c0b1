-- The number of eight bytes is a sum.
use Rattle.std.proofs.Common.{◌≡◌, suc, ◌+◌, ◌∙◌, ap, arith}
use lib.Ieee.{binary64, of_bits}
use Rattle.layout.specs.Layout.{little_endian}
use Rattle.triples.specs.Triples.{figure_at}
use Rattle.triples.proofs.figure.Goals as goal

pub returns : goal.returns
unfolding figure_at little_endian
returns c =
    let at = c.args.at in
    let e₁ : suc at ≡ at + 1 = omega arith in
    let e₂ : suc (at + 1) ≡ at + 2 = omega arith in
    let e₃ : suc (at + 2) ≡ at + 3 = omega arith in
    let e₄ : suc (at + 3) ≡ at + 4 = omega arith in
    let e₅ : suc (at + 4) ≡ at + 5 = omega arith in
    let e₆ : suc (at + 5) ≡ at + 6 = omega arith in
    let e₇ : suc (at + 6) ≡ at + 7 = omega arith in
    c.from_pattern.ensures
    ∙ ap (of_bits binary64) (rw (e₁, e₂, e₃, e₄, e₅, e₆, e₇) (omega (arith, c.from_le_bytes-bits.ensures)))
