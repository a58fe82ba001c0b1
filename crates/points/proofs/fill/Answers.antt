-- Each turn copies one point more.
use Rattle.std.proofs.Common.{ap, ◌∙◌, arith, rules, to_z-of_z, w32}
use Rattle.model.specs.Points.{Point}
use Rattle.points.proofs.Copying.{copying_field}
use Rattle.points.proofs.fill.Goals as goal

pub loop-i-preserved : goal.loop-i-preserved
loop-i-preserved g c =
    let ps = g.P.Points.points c.args.points.now in
    let k = c.loop-i.invariant in
    let p = c.point-p in
    record {
      areas_are = copying_field _ ps _ k.areas_are (omega arith) (omega arith) (ap (λ (p : Point). p.area) p.ensures);
      values_are = copying_field _ ps _ k.values_are (omega arith) (omega arith) (ap (λ (p : Point). p.value) p.ensures);
      slopes_are =
          copying_field _ ps _ k.slopes_are (omega arith) (omega arith)
          (to_z-of_z {w = w32} {z = p.result.slope} (search rules) ∙ ap (λ (p : Point). p.slope) p.ensures);
    }
