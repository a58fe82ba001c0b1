-- Results as answers.
--   gives_no_err    what is no Err is a result
--   answer_through  an answer, and what a function makes of it
--   refused_exit    the exit of a `?` is the refusal; row_exit, that of a row
--   in_table        a row's number is at most the largest one
-- Assumes nothing.
use Rattle.std.proofs.Common.{◌≡◌, ℕ, ◌≤◌, lit≤, false, refl, sym, ap}
use Rattle.std.specs.Prelude.{Result, Ok, Err, is_err, IsErrAnd}
use Rattle.model.specs.Answer.{Answer, gives, refused, ◌then◌}
use Rattle.model.proofs.Numbered.{number_most}
use Rattle.model.proofs.Rows.{gives_injective, refused≢gives}
use Rattle.refusal.specs.declared.Row.{Row}
use Rattle.refusal.specs.declared.Row.TheVariants.{Count, Code, Area, Value, Slope, Segment, Outside}
use Rattle.refusal.specs.declared.Row.TheVariants.{Sheet, Head, Size, Room, Buffer, Triples, Whole}
use Rattle.refusal.specs.declared.Refusal.{Refusal}
use Rattle.refusal.specs.Refusal.{number_of, answer_at, answer_of}

pub gives_no_err : (r : Result (Unit {0}) Row) (i : ℕ) → is_err r ≡ false → answer_at i (λ (u : Unit {0}). u) r ≡ gives tt
gives_no_err (Ok u) i e = refl
gives_no_err (Err row) i e = cc

pub refused_exit : {A B : Type 0} (f : A → B) (r : Result A Refusal) (d : Refusal) → IsErrAnd r (λ e. e ≡ d) →
    answer_of f r ≡ refused (number_of d.row) d.place
refused_exit f (Ok x) d k = absurd k
refused_exit f (Err e) d k = rw k

pub row_exit : {A B : Type 0} (f : A → B) (place : ℕ) (r : Result A Row) (row : Row) → IsErrAnd r (λ e. e ≡ row) →
    answer_at place f r ≡ refused (number_of row) place
row_exit f place (Ok x) row k = absurd k
row_exit f place (Err e) row k = rw k

pub answer_through : {A B C : Type 0} (f : A → B) (h : B → C) (r : Result A Refusal) (rows : Answer (Unit {0})) (b : B) →
    answer_of f r ≡ (rows then gives b) → answer_of (λ x. h (f x)) r ≡ (rows then gives (h b))
unfolding ◌then◌
answer_through f h (Ok x) (gives u) b e = ap (λ y. gives (h y)) (gives_injective e)
answer_through f h (Ok x) (refused number place) b e = absurd (refused≢gives (sym e))
answer_through f h (Err d) (gives u) b e = absurd (refused≢gives e)
answer_through f h (Err d) (refused number place) b e = cc

pub in_table : (row : Row) → number_of row ≤ number_most
in_table Count = lit≤ tt
in_table Code = lit≤ tt
in_table Area = lit≤ tt
in_table Value = lit≤ tt
in_table Slope = lit≤ tt
in_table Segment = lit≤ tt
in_table Outside = lit≤ tt
in_table Sheet = lit≤ tt
in_table Head = lit≤ tt
in_table Size = lit≤ tt
in_table Room = lit≤ tt
in_table Buffer = lit≤ tt
in_table Triples = lit≤ tt
in_table Whole = lit≤ tt
