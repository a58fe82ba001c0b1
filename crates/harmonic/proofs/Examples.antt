-- The fillings of specs/Examples.antt, by computation. `◌+ℚ◌` and `round` unfold so that an edit that uses them is computed too.
-- Assumes nothing.
use mathlib.Core.Path.{refl}
use Rattle.exact.specs.Fraction.{◌over◌, whole, ◌+ℚ◌, ◌*ℚ◌, ◌/ℚ◌, leℚ, eqℚ}
use Rattle.exact.specs.Rounding.{floor_div, floor, round}
use Rattle.model.specs.Answer.{row, ◌then◌, row_at_each, filled}
use Rattle.model.specs.Check.{lengths_differ, bad_count, bad_area, bad_value}
use Rattle.model.specs.Sheet.{tabulate}
use Rattle.harmonic.specs.Rule.{inner_slope, end_slope, hundredths, chord_between, slope}
use Rattle.harmonic.specs.Fill.{area_and_value_rows, falls, too_steep, fill_answer}
use Rattle.harmonic.specs.Examples.{FillExamples}

pub fill_examples : FillExamples
unfolding ◌over◌ whole ◌+ℚ◌ ◌*ℚ◌ ◌/ℚ◌ leℚ eqℚ floor_div floor round row ◌then◌ row_at_each filled
    lengths_differ bad_count bad_area bad_value tabulate inner_slope end_slope hundredths chord_between slope
    area_and_value_rows falls too_steep fill_answer
fill_examples = (refl, refl, refl, refl, refl, refl, refl)
