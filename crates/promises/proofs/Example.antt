-- Document 01's 31 bytes, by computation; and a factor read of that curve by each call.
-- Assumes nothing.
use mathlib.Core.Path.{refl}
use mathlib.Core.List.{[], ◌∷◌, flat_map}
use lib.Dec.{lit<}
use lib.IntN.{pos}
use Rattle.exact.specs.Fraction.{◌over◌, whole, ◌+ℚ◌, ◌-ℚ◌, ◌*ℚ◌, ◌/ℚ◌, leℚ, ltℚ, eqℚ}
use Rattle.exact.specs.Rounding.{floor_div, floor, even, even_from, round}
use Rattle.model.specs.Answer.{row, ◌then◌, row_at_each, filled}
use Rattle.model.specs.Points.{gradient, points, segments, shape_of, rule_of}
use Rattle.model.specs.Interpolant.{chord, p, q, P, Q, rational, r_rising, r_convex}
use Rattle.model.specs.Interpolant.{rising_curve, convex_curve, curve, interpolant, exact_curve}
use Rattle.model.specs.Shape.{rises, bends, fits, has_shape, segment_test}
use Rattle.model.specs.Check.{lengths_differ, bad_count, bad_code, bad_area, bad_value, bad_slope}
use Rattle.model.specs.Check.{point_rows, segment_rows, curve_rows, on_lists}
use Rattle.model.specs.Read.{last_from, segment_read, outside, exact_value, reading, used_code, factor, read_answer}
use Rattle.model.specs.Sheet.{bad_sheet, tabulate, sheet_answer, sheet_list}
use Rattle.model.specs.Laws.{Curve}
use Rattle.layout.specs.Layout.{twos_complement, little_endian, record_at, points_of}
use Rattle.layout.specs.Head.{wrong_mark, bad_head, bad_size, head_rows}
use Rattle.pair.specs.Pair.{factors, pair_answer}
use Rattle.encoding.specs.File.{in_bytes, in_twos_complement, record_bytes, head_bytes, file_bytes}
use Rattle.file.specs.Open.{short_list, open_answer}
use Rattle.file.specs.Write.{short_buffer, write_answer}
use Rattle.desk_answer.specs.Desk.{answer_with, desk_number, point_records, segment_records}
use Rattle.promises.specs.FactorRead.{FileOf, FactorRead, by_read, by_pair_form, by_pair_plan, by_sheet}
use Rattle.promises.specs.FactorRead.{by_desk, by_desk_two}
use Rattle.promises.specs.Example.{records, file, one_point, third, three, later, shapeless}
use Rattle.promises.specs.Example.{FileExample, WriteExample, DeskTwoExample}

-- the file's curve, and its factor at 550 by each call: Pair's two sides, the second entry of a sheet
pub record Each (c : Curve) : Type 0 where
  pub same : FileOf c file
  pub read : FactorRead c 550 (pos 10800)
  pub form : FactorRead c 550 (pos 10800)
  pub plan : FactorRead c 550 (pos 10800)
  pub sheet : FactorRead c 550 (pos 10800)
  pub desk : FactorRead c 550 (pos 10800)
  pub desk_two : FactorRead c 550 (pos 10800)

pub example : FileExample × DeskTwoExample × (c : Curve) × Each c
unfolding ◌over◌ whole ◌+ℚ◌ ◌-ℚ◌ ◌*ℚ◌ ◌/ℚ◌ leℚ ltℚ eqℚ floor_div floor even even_from round row ◌then◌ row_at_each
    gradient points segments shape_of rule_of chord p q P Q rational r_rising r_convex rising_curve convex_curve curve
    interpolant exact_curve rises bends fits has_shape segment_test
    lengths_differ bad_count bad_code bad_area bad_value bad_slope point_rows segment_rows curve_rows on_lists
    last_from segment_read outside exact_value reading used_code factor read_answer bad_sheet tabulate sheet_answer sheet_list
    twos_complement little_endian record_at wrong_mark bad_head bad_size head_rows factors pair_answer
    short_list open_answer filled answer_with desk_number point_records segment_records
    records file one_point third three later
example =
    let c : Curve = record { points = points_of file; code = 2; accepted = refl } in
    let k : FileOf c file = record { head = refl; points = refl; code = refl } in (
      (refl, refl, refl, refl, refl, refl, refl, refl, refl, refl, refl),
      (refl, refl, refl, refl, refl, refl, refl, refl, refl, refl, refl, refl, refl, refl),
      c,
      record {
        same = k;
        read = by_read 550 (pos 10800) refl;
        form = by_pair_form 550 600 _ refl;
        plan = by_pair_plan 500 550 _ refl;
        sheet = by_sheet 500 50 (pos 1 ∷ pos 2 ∷ []) 2 1 refl (lit< tt);
        desk = by_desk file 550 24 (pos 10800) k refl (record { le = tt });
        desk_two = by_desk_two file 550 24 (pos 10800) k refl (record { le = tt });
      },
    )

pub file_example : FileExample
file_example = example.0

pub desk_two_example : DeskTwoExample
desk_two_example = example.1

pub write_example : WriteExample
unfolding ◌over◌ leℚ ltℚ eqℚ ◌-ℚ◌ row ◌then◌ filled gradient segments shape_of rule_of chord bends fits has_shape segment_test
    bad_count bad_code bad_area bad_value bad_slope point_rows segment_rows curve_rows tabulate
    twos_complement little_endian record_at in_bytes in_twos_complement record_bytes head_bytes file_bytes flat_map
    short_buffer write_answer records file shapeless
write_example = (refl, refl, refl, refl, refl, refl, refl)
