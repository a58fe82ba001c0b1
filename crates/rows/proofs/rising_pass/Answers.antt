-- The run decides, or the rest and the segment that it ends at.
use Rattle.std.proofs.Common.{sym, ◌∙◌, arith}
use Rattle.rows.proofs.AsRead.{neighbours_at, run_ends, run_stops}
use Rattle.rows.proofs.rising_pass.Goals as goal

pub returns-then-run-count : goal.returns-then-run-count
returns-then-run-count g c =
    let (a, u) = run_ends _ c.requires (omega (arith, c.if-run-count.true)) c.in_ok-run.ensures in
    (a, sym u)

pub bends-requires : goal.bends-requires
bends-requires g c =
    let k = c.in_ok-run.ensures in
    let inner = c.if-run-count.false in
    rw (c.point.ensures, c.point-else-not-rest_passes.ensures)
    (neighbours_at _ 1 _ (c.rest_passes.ensures c.if-not-rest_passes.false) (omega (arith, k.passing.inner)))

pub returns : goal.returns
returns g c =
    let k = c.in_ok-run.ensures in
    let bend = rw (c.point.ensures, c.point-else-not-rest_passes.ensures) at (sym c.bends.ensures ∙ c.if-bends.false) in
    (c.rest_passes.ensures c.if-not-rest_passes.false, sym (run_stops _ (omega (arith, k.passing.inner)) bend k))
