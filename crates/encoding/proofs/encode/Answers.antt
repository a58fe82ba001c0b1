-- Each turn writes one record more, after those before it.
use Rattle.std.proofs.Common.{◌≡◌, ◌+◌, length, arith}
use Rattle.shape.specs.Codes.{code_of}
use Rattle.layout.specs.Layout.{point_offset}
use Rattle.encoding.proofs.Pieces.{put_next}
use Rattle.encoding.proofs.Records.{begun, begun_none, begun_next, begun_all, begun_length}
use Rattle.encoding.proofs.encode.Goals as goal

pub loop-i-init : goal.loop-i-init
loop-i-init g c =
    let ps = g.P.Points.points c.args.points.now in
    rw (begun_none ps (code_of c.args.shape), ← c.code.ensures, ← c.count-count.ensures) c.put_head.ensures

pub loop-i-preserved : goal.loop-i-preserved
loop-i-preserved g c =
    let ps = g.P.Points.points c.args.points.now in
    let code = code_of c.args.shape in
    let i = c.loop-i.i in
    let found = c.args.out.now in
    let place : point_offset i ≡ 0 + length (begun ps code i) = omega (arith, begun_length ps code i (omega arith)) in
    rw (← begun_next ps code i (omega arith), ← c.point.ensures)
    (put_next 0 (point_offset i) (begun ps code i) _ found (omega arith) c.loop-i.invariant place c.put_point.ensures)

pub returns : goal.returns
returns g c =
    let ps = g.P.Points.points c.args.points.now in
    let e : c.loop-i.i ≡ length ps = omega arith in
    rw (e, begun_all ps (code_of c.args.shape)) at c.loop-i.invariant
