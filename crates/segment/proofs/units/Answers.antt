-- Unless n ends in 50 what is left does not matter; there it decides.
use Rattle.std.proofs.Common.{ℤ, pos, sym, ◌∙◌, ap, refl, arith, lit<, rules, w32, to_z-of_z}
use Rattle.exact.specs.Fraction.{◌over◌}
use Rattle.exact.specs.Rounding.{round}
use Rattle.exact.specs.Inner.{sticky}
use Rattle.segment.proofs.HalfUnits.{sticky_most, about, at_tie, up_read, before_size, before_read}
use Rattle.segment.proofs.units.Goals as goal

pub returns-in-Some : goal.returns-in-Some
returns-in-Some c =
    let n = to_z-of_z c.ranges.n in
    to_z-of_z {w = w32} (search rules) ∙ sym (c.in-Some.ensures.sure _ (rw n (about c.args.n c.args.r)))

pub nearest-requires : goal.nearest-requires
nearest-requires c =
    let h = rw (to_z-of_z c.ranges.n) at (c.in_default.ensures.tie refl) in
    rw (up_read c.args.n c.requires c.floor_div.ensures, before_read h, c.digit.ensures)
    (record {
      size = before_size h;
      above_0 = lit< tt;
      part = omega (arith, sticky_most c.args.r);
      divisor = lit< tt;
    })

pub returns : goal.returns
returns c =
    let h = rw (to_z-of_z c.ranges.n) at (c.in_default.ensures.tie refl) in
    let k = up_read c.args.n c.requires c.floor_div.ensures in
    to_z-of_z {w = w32} (search rules)
    ∙ (rw (k, before_read h, c.digit.ensures) at c.nearest.ensures)
    ∙ ap (λ (z : ℤ). round (z over pos 200)) (at_tie (sticky c.args.r) h)
