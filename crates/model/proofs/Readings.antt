-- K1 to K10, further readings and those of document 02, items 4, 6 and 8, by computation.
-- Assumes nothing.
use mathlib.Core.Path.{refl}
use Rattle.exact.specs.Fraction.{◌over◌, whole, ◌+ℚ◌, ◌-ℚ◌, ◌*ℚ◌, ◌/ℚ◌, leℚ, ltℚ, eqℚ}
use Rattle.exact.specs.Rounding.{floor_div, floor, even, even_from, round}
use Rattle.model.specs.Answer.{row, ◌then◌, row_at_each}
use Rattle.model.specs.Points.{gradient, points, segments, shape_of, mirror, rule_of}
use Rattle.model.specs.Interpolant.{chord, p, q, P, Q, rational, r_rising, r_convex}
use Rattle.model.specs.Interpolant.{rising_curve, convex_curve, curve, interpolant, exact_curve}
use Rattle.model.specs.Shape.{rises, bends, fits, has_shape, segment_test}
use Rattle.model.specs.Check.{lengths_differ, bad_count, bad_code, bad_area, bad_value, bad_slope}
use Rattle.model.specs.Check.{point_rows, segment_rows, curve_rows, check_answer, on_lists}
use Rattle.model.specs.Read.{last_from, segment_read, outside, exact_value, reading, all_convex, used_code, factor, read_answer}
use Rattle.model.specs.Sheet.{bad_sheet, tabulate, sheet_answer, sheet_list}
use Rattle.model.specs.Readings.{bow, ten, TenReadings, kink, FurtherReadings}
use Rattle.model.specs.Readings.{mirrored_bow, ten_mirrored, fall, arch, MirroredReadings}
use Rattle.model.specs.Readings.{slow_line, mirrored_line, sagging, away_from_zero, apart, HalfReadings, Traps}
use Rattle.model.specs.Readings.{turned, bow_first, bow_last, level, ConvexFirstReadings}

computed : TenReadings × FurtherReadings × MirroredReadings × HalfReadings × Traps × ConvexFirstReadings
unfolding ◌over◌ whole ◌+ℚ◌ ◌-ℚ◌ ◌*ℚ◌ ◌/ℚ◌ leℚ ltℚ eqℚ floor_div floor even even_from round row ◌then◌ row_at_each
    gradient points segments shape_of rule_of mirror chord p q P Q rational r_rising r_convex rising_curve convex_curve curve
    interpolant exact_curve rises bends fits has_shape segment_test
    lengths_differ bad_count bad_code bad_area bad_value bad_slope point_rows segment_rows curve_rows check_answer on_lists
    last_from segment_read outside exact_value reading all_convex used_code factor read_answer
    bad_sheet tabulate sheet_answer sheet_list
    bow ten kink mirrored_bow ten_mirrored fall arch slow_line mirrored_line sagging turned bow_first bow_last level
    away_from_zero apart
computed = (
  λ area. refl,
  (refl, refl, refl, refl, refl, refl, refl, refl),
  (λ area. refl, refl, refl, refl, refl, refl, refl, refl, refl, refl, refl, refl),
  (refl, refl, refl, refl, refl, refl, refl, refl, refl, refl, refl, refl),
  (refl, refl, refl, refl),
  (refl, refl, refl, refl, refl, refl, refl, refl, refl, refl, refl, refl, refl),
)

pub ten_readings : TenReadings
ten_readings = computed.0

pub further_readings : FurtherReadings
further_readings = computed.1

pub mirrored_readings : MirroredReadings
mirrored_readings = computed.2

pub half_readings : HalfReadings
half_readings = computed.3

pub traps : Traps
traps = computed.4

pub convex_first_readings : ConvexFirstReadings
convex_first_readings = computed.5
