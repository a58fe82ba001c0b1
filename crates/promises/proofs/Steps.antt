-- Curves that say how far a demand goes. Document 02, item 6: steps that differ by two units, so that one unit would not do; item
-- 8: a rising curve that is read as convex.
-- Assumes nothing.
use mathlib.Core.Path.{refl}
use lib.Dec.{lit<}
use lib.IntN.{pos}
use Rattle.exact.specs.Fraction.{◌over◌, whole, leℚ, ltℚ, eqℚ}
use Rattle.model.specs.Answer.{row, ◌then◌}
use Rattle.model.specs.Points.{gradient, segments, shape_of, mirror, rule_of}
use Rattle.model.specs.Shape.{rises, bends, fits, has_shape, segment_test}
use Rattle.model.specs.Check.{bad_count, bad_code, bad_area, bad_value, bad_slope, point_rows, segment_rows, curve_rows}
use Rattle.model.specs.Read.{all_convex, used_code}
use Rattle.model.specs.Laws.{Curve}
use Rattle.model.specs.Readings.{bow, slow_line, mirrored_line}
use Rattle.model.proofs.Readings.{half_readings}
use Rattle.promises.specs.FactorRead.{by_read}
use Rattle.promises.specs.Demands.{OneUnitIsTooFew, RisesAsConvex}
use Rattle.promises.proofs.Demands.{third_demand}

-- the factors at 1, 3 and 5 are 0, 2 and 2, or 200,000, 199,998 and 199,998
pub one_unit_is_too_few : OneUnitIsTooFew
unfolding ◌over◌ leℚ ltℚ eqℚ row ◌then◌ gradient segments shape_of mirror rule_of bends fits has_shape segment_test
    bad_count bad_code bad_area bad_value bad_slope point_rows segment_rows curve_rows slow_line mirrored_line
one_unit_is_too_few =
    let c : Curve = record { points = slow_line; code = 2; accepted = refl } in
    let m : Curve = record { points = mirrored_line; code = 4; accepted = refl } in
    let h = half_readings in
    record {
      convex = (
        c,
        refl,
        λ steps.
            (steps 1 2 (pos 0) (pos 2) (pos 2) (lit< tt) (by_read 1 _ h.0) (by_read 3 _ h.1) (by_read 5 _ h.2)).le,
      );
      concave = (
        m,
        refl,
        λ steps.
            (steps 1 2 (pos 200000) (pos 199998) (pos 199998) (lit< tt) (by_read 1 _ h.3) (by_read 3 _ h.4)
            (by_read 5 _ h.5)).le,
      );
    }

-- the points of K1
pub rises_as_convex : RisesAsConvex
unfolding ◌over◌ whole leℚ ltℚ eqℚ row ◌then◌ gradient segments shape_of rule_of rises bends fits has_shape segment_test
    bad_count bad_code bad_area bad_value bad_slope point_rows segment_rows curve_rows all_convex used_code bow
rises_as_convex =
    let c : Curve = record { points = bow; code = 1; accepted = refl } in
    (c, refl, refl, (third_demand c).rising refl)
