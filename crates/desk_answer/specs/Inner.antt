-- What contracts of inner functions cite. Nothing here need be believed: the calls' contracts cite document 01's and item 5's
-- definitions.
--   Fits     n bytes from an index on are in a list of so many bytes, and from another on in a second one
--   copied   those of the second list are those of the first
--   Answered   a reading's result is its answer, and the scratch is left as the answer says
-- Assumes nothing.
use Rattle.std.specs.Prelude.{◌≡◌, List, ◌++◌, ℕ, ◌+◌, ◌≤◌, take, drop, length, Result, ℤ}
use Rattle.model.specs.Answer.{filled}
use Rattle.refusal.specs.Refusal.{answer_of}
use Rattle.refusal.specs.declared.Refusal.{Refusal}
use Rattle.desk_answer.specs.Desk.{answer_with}

pub record Fits (from to n src dst : ℕ) : Type 0 where
  pub in_src : from + n ≤ src
  pub in_dst : to + n ≤ dst

abbrev pub copied : (from to n : ℕ) (src dst : List ℕ) → List ℕ
copied from to n src dst = take to dst ++ (take n (drop from src) ++ drop (to + n) dst)

pub record Answered (room : ℕ) (bytes : List ℕ) (area : ℕ) (records found left : List ℕ) (r : Result ℤ Refusal) : Type 0 where
  pub answer : answer_of (λ f. f) r ≡ answer_with room bytes area (length found)
  pub scratch : left ≡ filled (answer_with room bytes area (length found)) records found
