-- One point and one segment more; after the last the points are an accepted curve.
use Rattle.std.proofs.Common.{arith}
use Rattle.shape.proofs.Tests.{code_of_shape}
use Rattle.rows.proofs.Passing.{passing_goes_on, accepted_of}
use Rattle.rows.proofs.rest_passes.Goals as goal

pub follows-requires : goal.follows-requires
follows-requires g c = rw c.point.ensures c.loop-i.invariant.limits

pub loop-i-preserved : goal.loop-i-preserved
loop-i-preserved g c =
    let f = rw (c.point.ensures, c.point-in-loop-i.ensures) at (c.follows.ensures c.if-not-follows.false) in
    passing_goes_on _ _ (omega arith) f c.loop-i.invariant

pub returns : goal.returns
returns g c = λ _.
    accepted_of _ _ c.requires.count (code_of_shape c.args.shape) (omega (arith, c.loop-i.invariant.inner)) c.loop-i.invariant
