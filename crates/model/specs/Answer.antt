-- Document 01, "The calls": one answer that is either its result or a refusal with a number and a place.
-- Assumes nothing.
use Rattle.std.specs.Prelude.{ℕ, zero, suc, Bool, true, false, List, ◌++◌, length, drop}

pub data Answer (A : Type 0) : Type 0 where
  gives : A → Answer A
  refused : ℕ → ℕ → Answer A

-- one row of the refusal table: its condition, number and place
unfoldable pub row : Bool → ℕ → ℕ → Answer (Unit {0})
row true number place = refused number place
row false number place = gives tt

-- the search ends at the first fault
infixr 3 ◌then◌
unfoldable pub ◌then◌ : {A : Type 0} → Answer (Unit {0}) → Answer A → Answer A
gives u then a = a
refused number place then a = refused number place

-- a row that is tried at n places from i on: it refuses at the first where its condition holds
unfoldable pub row_at_each : (ℕ → Bool) → ℕ → ℕ → ℕ → Answer (Unit {0})
row_at_each condition number i zero = gives tt
row_at_each condition number i (suc n) = row (condition i) number i then row_at_each condition number (suc i) n

-- a lent list after a call, by the answer: what the call writes, and the entries after it as found; or all as found
unfoldable pub filled : {A B : Type 0} → Answer A → List B → List B → List B
filled (gives x) written found = written ++ drop (length written) found
filled (refused number place) written found = found
