-- The differences of the slopes over 100 h are natural numbers that fit.
use Rattle.std.proofs.Common.{arith, rules}
use Rattle.std.proofs.lemmas.Int.{ints}
use Rattle.shape.proofs.Figures.{a_size, b_size}
use Rattle.segment.proofs.BentReading.{bends_inside}
use Rattle.segment.proofs.Bent.at.Goals as goal

pub overflow_sub-a : goal.overflow_sub-a
overflow_sub-a c = omega (arith, ints, a_size c.requires.good.ends)

pub overflow_cast-a : goal.overflow_cast-a
overflow_cast-a c = search (rules, arith, ints, a_size c.requires.good.ends, (bends_inside c.requires).above_is)

pub overflow_sub-b : goal.overflow_sub-b
overflow_sub-b c = omega (arith, ints, b_size c.requires.good.ends)

pub overflow_cast-b : goal.overflow_cast-b
overflow_cast-b c = search (rules, arith, ints, b_size c.requires.good.ends, (bends_inside c.requires).below_is)

pub invariant_of-result : goal.invariant_of-result
invariant_of-result c =
    let n = c.requires.good.ends in
    search (rules, arith, ints, a_size n, b_size n)

pub returns : goal.returns
returns c =
    let n = c.requires.good.ends in
    let bends = bends_inside c.requires in
    search (rules, arith, ints, a_size n, b_size n, bends.above_is, bends.below_is)
