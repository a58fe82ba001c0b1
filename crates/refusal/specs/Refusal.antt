-- A row's number, and the answer that a `Result` stands for.
-- Assumes nothing.
use Rattle.std.specs.Prelude.{ℕ, Result, Ok, Err}
use Rattle.model.specs.Answer.{Answer, gives, refused}
use Rattle.refusal.specs.declared.Row.{Row}
use Rattle.refusal.specs.declared.Row.TheVariants.{Count, Code, Area, Value, Slope, Segment, Outside}
use Rattle.refusal.specs.declared.Row.TheVariants.{Sheet, Head, Size, Room, Buffer, Triples, Whole}
use Rattle.refusal.specs.declared.Refusal.{Refusal}

-- document 01, "Refusals and their places"; 12, 13 and 14 are of document 02, items 1 and 7
abbrev pub number_of : Row → ℕ
number_of Count = 1
number_of Code = 2
number_of Area = 3
number_of Value = 4
number_of Slope = 5
number_of Segment = 6
number_of Outside = 7
number_of Sheet = 8
number_of Head = 9
number_of Size = 10
number_of Room = 11
number_of Buffer = 12
number_of Triples = 13
number_of Whole = 14

-- what f makes of the value of an Ok, or the refusal
abbrev pub answer_of : {A B : Type 0} → (A → B) → Result A Refusal → Answer B
answer_of f (Ok x) = gives (f x)
answer_of f (Err r) = refused (number_of r.row) r.place

-- the same of a row at a place
abbrev pub answer_at : {A B : Type 0} → ℕ → (A → B) → Result A Row → Answer B
answer_at place f (Ok x) = gives (f x)
answer_at place f (Err row) = refused (number_of row) place

-- whether nothing is refused
abbrev pub checked : Result (Unit {0}) Refusal → Answer (Unit {0})
checked = answer_of (λ u. u)
