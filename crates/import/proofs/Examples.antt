-- The imports of specs/Examples.antt, by computation.
-- Assumes nothing.
use mathlib.Core.Path.{refl}
use lib.Count.{count_trailing_zeros}
use lib.Ieee.{odd, of_fields, of_bits}
use Rattle.exact.specs.Fraction.{◌over◌, whole, leℚ, ltℚ, eqℚ}
use Rattle.exact.specs.Rounding.{floor_div, floor}
use Rattle.model.specs.Answer.{row, ◌then◌, filled}
use Rattle.model.specs.Points.{gradient, segments, shape_of, rule_of}
use Rattle.model.specs.Shape.{rises, bends, fits, has_shape, segment_test}
use Rattle.model.specs.Check.{bad_count, bad_code, bad_area, bad_value, bad_slope, segment_rows}
use Rattle.model.specs.Sheet.{tabulate}
use Rattle.layout.specs.Layout.{little_endian}
use Rattle.file.specs.Open.{short_list}
use Rattle.binary64.specs.Value.{float_value, whole_of}
use Rattle.triples.specs.Triples.{bad_length, figure_at, triple_at, whole_point, or_negative, natural, triple_rows}
use Rattle.triples.specs.Triples.{point_from, export_rows}
use Rattle.import.specs.Import.{import_answer}
use Rattle.import.specs.Examples.{K3, K9, ImportExamples}

pub import_examples : ImportExamples
unfolding count_trailing_zeros odd of_fields of_bits ◌over◌ whole leℚ ltℚ eqℚ floor_div floor row ◌then◌ filled
    gradient segments shape_of rule_of rises bends fits has_shape segment_test
    bad_count bad_code bad_area bad_value bad_slope segment_rows tabulate little_endian short_list float_value whole_of
    bad_length figure_at triple_at whole_point or_negative natural triple_rows point_from export_rows import_answer K3 K9
import_examples = (
  (refl, refl, refl),
  (refl, refl, refl, refl, refl, refl, refl),
  (refl, refl, refl, refl, refl),
  (refl, refl, refl, refl, refl, refl, refl, refl, refl),
)
