-- What contracts of inner functions cite. Nothing here need be believed: the calls' contracts cite document 01's definitions.
--   point_of      a point of the code, as a point of the definitions; segment_of, of two
--   earlier       the area before a point
-- Assumes nothing.
use Rattle.std.specs.Prelude as code
use Rattle.std.specs.Prelude.{ℕ}
use Rattle.std.proofs.Math.Option.{Option, none, some}
use Rattle.model.specs.Points as model
use Rattle.model.specs.Inner.{between}
use Rattle.point.specs.declared.Point.{Point}

abbrev pub point_of : Point → model.Point
point_of p = record { area = p.area; value = p.value; slope = p.slope }

abbrev pub segment_of : Point → Point → model.Segment
segment_of p q = between (point_of p) (point_of q)

abbrev pub earlier : code.Option ℕ → Option ℕ
earlier code.None = none
earlier (code.Some before) = some before
