-- Numbers as text, by computation.
-- Assumes nothing.
use mathlib.Core.Path.{refl}
use Rattle.text.specs.Text.{ascii, digits_within, decimal, signed}
use Rattle.text.specs.Examples.{NumberExamples}

pub number_examples : NumberExamples
unfolding ascii digits_within decimal signed
number_examples = (refl, refl, refl, refl, refl, refl, refl)
