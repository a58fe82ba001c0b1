-- The point at an index is that of the record there.
use Rattle.std.proofs.Common.{sym, ◌∙◌, arith}
use Rattle.layout.proofs.Points.{size_of_first, first_at_is}
use Rattle.layout.proofs.RecordsPoints.point.Goals as goal

pub record_at-requires : goal.record_at-requires
record_at-requires c =
    let r = c.args.self.now in
    record { file = omega (arith, r.holds.file, size_of_first r.bytes.now r.n) }

pub returns : goal.returns
returns c = c.record_at.ensures ∙ sym (first_at_is _ _ c.args.i c.requires)
