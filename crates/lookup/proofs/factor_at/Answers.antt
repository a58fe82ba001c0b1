-- The two points are the segment read.
use Rattle.std.proofs.Common.{w32, to_z-of_z, add-one, arith, ◌∙◌}
use Rattle.model.specs.Read.{reading, exact_value}
use Rattle.lookup.proofs.Areas.{most, read_before_last, inside_at}
use Rattle.lookup.proofs.factor_at.Goals as goal

pub point-requires : goal.point-requires
point-requires g c =
    let k = c.args.curve.now in
    omega (arith, c.requires.index, read_before_last _ _ k.accepted c.args.area)

pub overflow_add-i : goal.overflow_add-i
overflow_add-i g c =
    let k = c.args.curve.now in
    record { fits = omega (arith, c.requires.index, read_before_last _ _ k.accepted c.args.area, most _ _ k.accepted) }

pub point-requires-2 : goal.point-requires-2
point-requires-2 g c =
    let k = c.args.curve.now in
    omega (arith, c.requires.index, read_before_last _ _ k.accepted c.args.area)

pub invariant_of-segment : goal.invariant_of-segment
invariant_of-segment g c =
    let i = rw (← c.requires.index) at (inside_at _ _ c.args.curve.now.accepted c.args.area c.requires.inside) in
    record { neighbours = rw (c.point.ensures, c.point-2.ensures, add-one) i.good.ends }

pub factor-requires : goal.factor-requires
factor-requires g c =
    let i = rw (← c.requires.index) at (inside_at _ _ c.args.curve.now.accepted c.args.area c.requires.inside) in
    rw (c.point.ensures, c.point-2.ensures, add-one) i

pub returns : goal.returns
unfolding reading exact_value
returns g c =
    to_z-of_z {w = w32} {z = c.factor.result} (record { sfits = c.factor.type_inv })
    ∙ (rw (c.point.ensures, c.point-2.ensures, add-one, c.requires.index) at c.factor.ensures)
