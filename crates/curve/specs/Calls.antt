-- Answers of calls, in document 01's numbers and values.
-- Assumes nothing.
use Rattle.std.specs.Prelude.{ℕ, ℤ, pos, neg_ℤ, ◌≤ℤ◌}
use Rattle.model.specs.Answer.{Answer, gives, refused}
use Rattle.refusal.specs.Refusal.{number_of}
use Rattle.curve.specs.declared.Checked.{Checked}
use Rattle.curve.specs.declared.Checked.TheVariants as checked
use Rattle.curve.specs.declared.Reading.{Reading}
use Rattle.curve.specs.declared.Reading.TheVariants as reading
use Rattle.curve.specs.declared.Filled.{Filled}
use Rattle.curve.specs.declared.Filled.TheVariants as filled

abbrev pub checked_answer : Checked → Answer ℕ
checked_answer (checked.Segments count) = gives count
checked_answer (checked.Refused row place) = refused (number_of row) place

abbrev pub reading_answer : Reading → Answer ℤ
reading_answer (reading.Factor factor) = gives factor
reading_answer (reading.Refused row place) = refused (number_of row) place

abbrev pub filled_answer : Filled → Answer ℕ
filled_answer (filled.Entries count) = gives count
filled_answer (filled.Refused row place) = refused (number_of row) place

-- no factor is below −200,000; nor, beyond document 01 and item 4, above 400,000
abbrev pub InRange : Answer ℤ → Type 0
InRange (gives factor) = (neg_ℤ (pos 200000) ≤ℤ factor) × (factor ≤ℤ pos 400000)
InRange (refused number place) = Unit {0}
