-- The answer of Import, in the documents' numbers and values.
-- Assumes nothing.
use Rattle.std.specs.Prelude.{ℕ}
use Rattle.model.specs.Answer.{Answer, gives, refused}
use Rattle.refusal.specs.Refusal.{number_of}
use Rattle.import.specs.declared.Imported.{Imported}
use Rattle.import.specs.declared.Imported.TheVariants as imported

abbrev pub imported_answer : Imported → Answer ℕ
imported_answer (imported.Points n) = gives n
imported_answer (imported.Refused row place) = refused (number_of row) place
