-- Document 01's example, by computation, and that the first 776 bytes of a file decide.
-- Assumes nothing.
use mathlib.Core.Path.{◌≡◌, refl, ap}
use mathlib.Core.Bool.{Bool, true, false}
use mathlib.Core.List.{List}
use mathlib.Core.Logic.{inl, inr}
use Prim.Native.Nat.{ℕ, ◌<◌}
use native.Mathlib.Omega.{arith}
use borrow.Author.Tests.{lt-ltb, le-ltb}
use lib.ListN.{length, take}
use lib.Seq.{take_all, length-take-le, get_or-take}
use Rattle.exact.proofs.Tests.{compare}
use Rattle.exact.specs.Fraction.{◌over◌, whole, ◌+ℚ◌, ◌-ℚ◌, ◌*ℚ◌, ◌/ℚ◌, leℚ, ltℚ, eqℚ}
use Rattle.exact.specs.Rounding.{floor_div, floor, even, even_from, round}
use Rattle.model.specs.Answer.{Answer, refused, row, ◌then◌}
use Rattle.model.specs.Points.{Point, gradient, segments, shape_of, rule_of}
use Rattle.model.specs.Interpolant.{chord, p, q, P, Q, rational, r_rising, r_convex}
use Rattle.model.specs.Interpolant.{rising_curve, convex_curve, curve, interpolant, exact_curve}
use Rattle.model.specs.Shape.{rises, bends, fits, has_shape, segment_test}
use Rattle.model.specs.Check.{bad_count, bad_code, bad_area, bad_value, bad_slope}
use Rattle.model.specs.Check.{point_rows, segment_rows, curve_rows}
use Rattle.model.specs.Read.{last_from, segment_read, exact_value, reading, used_code, factor}
use Rattle.model.specs.Sheet.{tabulate}
use Rattle.layout.specs.Layout.{twos_complement, little_endian, record_at}
use Rattle.layout.specs.Head.{wrong_mark, bad_head, bad_size, head_rows}
use Rattle.file.specs.Open.{ShapeAndCount, short_list, open_answer}
use Rattle.text.specs.Text.{ascii, digits_within, decimal, signed}
use Rattle.sheet_text.specs.SheetText.{words_line, entry_line, entry_lines, sheet_lines}
use Rattle.sheet_text.specs.SheetText.{file_answer, answer_text, sheet_text}
use Rattle.sheet_text.specs.Laws.{file, dips, TextExamples, FirstBytesDecide}

pub text_examples : TextExamples
unfolding ◌over◌ whole ◌+ℚ◌ ◌-ℚ◌ ◌*ℚ◌ ◌/ℚ◌ leℚ ltℚ eqℚ floor_div floor even even_from round row ◌then◌
    gradient segments shape_of rule_of chord p q P Q rational r_rising r_convex rising_curve convex_curve curve
    interpolant exact_curve rises bends fits has_shape segment_test
    bad_count bad_code bad_area bad_value bad_slope point_rows segment_rows curve_rows
    last_from segment_read exact_value reading used_code factor tabulate
    twos_complement little_endian record_at wrong_mark bad_head bad_size head_rows short_list open_answer
    ascii digits_within decimal signed words_line entry_line entry_lines sheet_lines file_answer answer_text sheet_text file dips
text_examples = (refl, refl, refl, refl)

-- ---- the first 776 bytes

-- row 9 or row 10 refuses
abbrev too_long : Bool → Answer ShapeAndCount
too_long bad = row bad 9 0 then refused 10 0

same_refusal : (bad : Bool) (ps qs : List Point) → answer_text ps (too_long bad) ≡ answer_text qs (too_long bad)
unfolding answer_text row ◌then◌
same_refusal true ps qs = refl
same_refusal false ps qs = refl

long_answer : (bytes : List ℕ) → 775 < length bytes → file_answer bytes ≡ too_long (bad_head bytes)
unfolding file_answer row ◌then◌
long_answer bytes h = rw (lt-ltb 775 (length bytes) h)

module _ (bytes : List ℕ) (h : 775 < length bytes) where
  size : length (take 776 bytes) ≡ 776
  size = length-take-le 776 bytes (omega arith)

  same_head : bad_head (take 776 bytes) ≡ bad_head bytes
  unfolding bad_head wrong_mark little_endian
  same_head =
      rw (
        size,
        le-ltb (length bytes) 7 (omega arith),
        get_or-take 776 bytes 0 0 (omega arith),
        get_or-take 776 bytes 1 0 (omega arith),
        get_or-take 776 bytes 2 0 (omega arith),
        get_or-take 776 bytes 3 0 (omega arith),
        get_or-take 776 bytes 4 0 (omega arith),
      )

  long_text : sheet_text (take 776 bytes) ≡ sheet_text bytes
  unfolding sheet_text
  long_text =
      rw (long_answer bytes h, long_answer (take 776 bytes) (omega (arith, size)), same_head) (same_refusal (bad_head bytes) _ _)

pub first_bytes_decide : FirstBytesDecide
first_bytes_decide bytes =
    elim (compare 776 (length bytes)) [
      | inl (long, t) ↦ long_text bytes long
      | inr (short, t) ↦ ap sheet_text (take_all 776 bytes (omega arith))
    ]
