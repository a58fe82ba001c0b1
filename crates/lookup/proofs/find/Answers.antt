-- A segment that is not taken leaves the next reached; the last is taken.
use Rattle.std.proofs.Common.{◌≡◌, ◌-◌, inr, add-one, arith}
use Rattle.lookup.proofs.Areas.{size_of}
use Rattle.lookup.proofs.find.Goals as goal

pub overflow_sub-last : goal.overflow_sub-last
overflow_sub-last g c = omega (arith, size_of (g.P.Points.points c.args.points.now), c.requires.inner)

pub loop-i-preserved : goal.loop-i-preserved
loop-i-preserved g c = rw add-one (c.takes.ensures.no c.if-takes.false)

pub returns : goal.returns
returns g c =
    let n = size_of (g.P.Points.points c.args.points.now) in
    let last : c.loop-i.i ≡ c.count-last.result - 2 = omega (arith, n, c.requires.inner) in
    record { reached = rw last at c.loop-i.invariant; high = inr (omega (arith, n, c.requires.inner)) }
