-- The area at an index is that of the record there.
use Rattle.std.proofs.Common.{sym, ◌∙◌, ap, arith}
use Rattle.model.specs.Points.{Point}
use Rattle.layout.proofs.Points.{size_of_first, first_at_is}
use Rattle.layout.proofs.RecordsPoints.area.Goals as goal

pub area_of-requires : goal.area_of-requires
area_of-requires c =
    let r = c.args.self.now in
    record { file = omega (arith, r.holds.file, size_of_first r.bytes.now r.n) }

pub returns : goal.returns
returns c = c.area_of.ensures ∙ sym (ap (λ (p : Point). p.area) (first_at_is _ _ c.args.i c.requires))
