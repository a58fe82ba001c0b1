-- The answers of Open and Write, in the documents' numbers and values.
-- Assumes nothing.
use Rattle.std.specs.Prelude.{ℕ}
use Rattle.model.specs.Answer.{Answer, gives, refused}
use Rattle.refusal.specs.Refusal.{number_of}
use Rattle.shape.specs.Codes.{code_of}
use Rattle.file.specs.Open.{ShapeAndCount}
use Rattle.file.specs.declared.Opened.{Opened}
use Rattle.file.specs.declared.Opened.TheVariants as opened
use Rattle.file.specs.declared.Written.{Written}
use Rattle.file.specs.declared.Written.TheVariants as written

abbrev pub opened_answer : Opened → Answer ShapeAndCount
opened_answer (opened.Curve shape count) = gives (record { shape = code_of shape; count = count })
opened_answer (opened.Refused row place) = refused (number_of row) place

abbrev pub written_answer : Written → Answer ℕ
written_answer (written.Length n) = gives n
written_answer (written.Refused row place) = refused (number_of row) place
