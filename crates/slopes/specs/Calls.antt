-- The answer of the filling of slopes, in document 02's numbers and values.
-- Assumes nothing.
use Rattle.std.specs.Prelude.{ℕ}
use Rattle.model.specs.Answer.{Answer, gives, refused}
use Rattle.refusal.specs.Refusal.{number_of}
use Rattle.slopes.specs.declared.Supplied.{Supplied}
use Rattle.slopes.specs.declared.Supplied.TheVariants as supplied

abbrev pub supplied_answer : Supplied → Answer ℕ
supplied_answer (supplied.Points count) = gives count
supplied_answer (supplied.Refused row place) = refused (number_of row) place
