-- The first point passes; one convex segment more.
use Rattle.std.proofs.Common.{sym, ◌∙◌, ap, arith}
use Rattle.model.specs.Points.{Point}
use Rattle.exact.proofs.Tests.{≤_of_lt_z_false}
use Rattle.point.proofs.Figures.{slope_read}
use Rattle.refusal.proofs.Results.{gives_no_err}
use Rattle.rows.proofs.Passing.{passing_starts}
use Rattle.rows.proofs.AsRead.{run_starts, run_goes_on}
use Rattle.rows.proofs.convex_run.Goals as goal

pub loop-i-init : goal.loop-i-init
loop-i-init g c =
    let e = sym (c.check.ensures 0) ∙ gives_no_err _ 0 (sym c.is_err.ensures.value ∙ c.if-is_err.false) in
    let k = passing_starts _ 1 (omega arith) (rw c.point-first.ensures at e) in
    let first_slope = ap (λ (p : Point). p.slope) c.point-first.ensures in
    run_starts _ k (≤_of_lt_z_false (rw (first_slope, slope_read k.limits) at c.if-first-lt0.false))

pub follows-requires : goal.follows-requires
follows-requires g c = rw c.point.ensures c.loop-i.invariant.passing.limits

pub loop-i-preserved : goal.loop-i-preserved
loop-i-preserved g c =
    let f = rw (c.point.ensures, c.point-in-loop-i.ensures) at (c.follows.ensures c.if-not-follows.false) in
    run_goes_on _ (omega arith) f c.loop-i.invariant
