-- Each field is a number of the record.
use Rattle.std.proofs.Common.{w32, to_z-of_z}
use Rattle.layout.specs.Layout.{record_at}
use Rattle.layout.proofs.record_at.Goals as goal

pub returns : goal.returns
unfolding record_at
returns c =
    rw (
      c.unsigned.ensures,
      c.unsigned-2.ensures,
      to_z-of_z {w = w32} {z = c.signed.result} (record { sfits = c.signed.type_inv }),
      c.signed.ensures,
    )
