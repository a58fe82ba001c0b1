-- The area at an index is that of the record there.
use Rattle.std.proofs.Common.{sym, ◌∙◌, ap}
use Rattle.model.specs.Points.{Point}
use Rattle.layout.proofs.Points.{point_at_is, record_fits}
use Rattle.layout.proofs.CurveFilePoints.area.Goals as goal

pub area_of-requires : goal.area_of-requires
area_of-requires c = let f = c.args.self.now in record { file = record_fits _ c.args.i f.size c.requires }

pub returns : goal.returns
returns c = c.area_of.ensures ∙ sym (ap (λ (p : Point). p.area) (point_at_is _ c.args.i c.requires))
