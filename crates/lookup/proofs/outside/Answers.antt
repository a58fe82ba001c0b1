-- Row 7 by the first and the last area.
use Rattle.std.proofs.Common.{lt-ltb, le-ltb}
use Rattle.lookup.proofs.Areas.{outside_is}
use Rattle.lookup.proofs.outside.Goals as goal

pub returns-then-area : goal.returns-then-area
returns-then-area g c =
    rw (outside_is _ c.args.area c.requires, ← c.area.ensures, lt-ltb _ _ c.if-area.true)

pub returns-else-area : goal.returns-else-area
returns-else-area g c =
    rw (
      outside_is _ c.args.area c.requires,
      ← c.count.ensures,
      ← c.area.ensures,
      ← c.area-else-area.ensures,
      le-ltb _ _ c.if-area.false,
    )
