-- What contracts of inner functions cite. Nothing here need be believed: the call's contract cites document 02's definitions.
--   triple_of       a triple of the code, as one of the definitions
--   ranged_point    a point with its figures brought into range: 32 bits hold them, and rows 3 to 5 refuse what they refused,
--                   since an area or a value below 0 is 2^31 or more as an unsigned number
--   ranged          the same, if the point is taken
--   taken_point     what the code takes of a triple
--   whole_points    the points before the first that is not taken
-- Assumes nothing.
use Rattle.std.specs.Prelude as code
use Rattle.std.specs.Prelude.{ℕ, List, [], ◌∷◌}
use Rattle.std.specs.Int.{w32, cast_unsigned}
use Rattle.std.proofs.Math.Option.{Option, none, some}
use Rattle.model.specs.Points as model
use Rattle.point.specs.declared.Point.{Point}
use Rattle.point.specs.Inner.{point_of}
use Rattle.binary64.specs.Inner.{saturate}
use Rattle.triples.specs.declared.Triple as declared
use Rattle.triples.specs.Triples.{Triple, WholePoint}

abbrev pub triple_of : declared.Triple → Triple
triple_of t = record { area = t.area; value = t.value; slope = t.slope }

unfoldable pub ranged_point : WholePoint → model.Point
ranged_point p =
    record {
      area = cast_unsigned w32 (saturate p.area);
      value = cast_unsigned w32 (saturate p.value);
      slope = saturate p.slope;
    }

unfoldable pub ranged : Option WholePoint → Option model.Point
ranged none = none
ranged (some p) = some (ranged_point p)

abbrev pub taken_point : code.Option Point → Option model.Point
taken_point code.None = none
taken_point (code.Some p) = some (point_of p)

unfoldable pub whole_points : List (Option WholePoint) → List model.Point
whole_points [] = []
whole_points (none ∷ ps) = []
whole_points (some p ∷ ps) = ranged_point p ∷ whole_points ps
