-- The point at an index is that of the record there.
use Rattle.std.proofs.Common.{sym, ◌∙◌}
use Rattle.layout.proofs.Points.{point_at_is, record_fits}
use Rattle.layout.proofs.CurveFilePoints.point.Goals as goal

pub record_at-requires : goal.record_at-requires
record_at-requires c = let f = c.args.self.now in record { file = record_fits _ c.args.i f.size c.requires }

pub returns : goal.returns
returns c = c.record_at.ensures ∙ sym (point_at_is _ c.args.i c.requires)
