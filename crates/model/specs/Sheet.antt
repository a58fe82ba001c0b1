-- Document 01: what Sheet answers, and what its list holds after the call.
-- Assumes nothing.
use Rattle.std.specs.Prelude.{ℕ, zero, suc, ◌+◌, ◌*◌, Bool, ◌||◌, List, [], ◌∷◌, eqb, ltb, ℤ}
use Rattle.model.specs.Answer.{Answer, gives, refused, row, ◌then◌, row_at_each}
use Rattle.model.specs.Points.{Point}
use Rattle.model.specs.Check.{curve_rows}
use Rattle.model.specs.Read.{outside, factor}

abbrev pub entries_most : ℕ
entries_most = 1024

-- row 8: step 0, or 0 entries, or more than 1,024
unfoldable pub bad_sheet : ℕ → ℕ → Bool
bad_sheet step entries = eqb step 0 || eqb entries 0 || ltb entries_most entries

-- the area of an entry is start + index × step, the true sum
abbrev pub entry_area : ℕ → ℕ → ℕ → ℕ
entry_area start step index = start + index * step

-- row 7 at n entries: the place is the first entry outside
abbrev pub entry_rows : List Point → ℕ → ℕ → ℕ → Answer (Unit {0})
entry_rows ps start step n = row_at_each (λ index. outside ps (entry_area start step index)) 7 0 n

-- f at n indices from the index on
unfoldable pub tabulate : {A : Type 0} → (ℕ → A) → ℕ → ℕ → List A
tabulate f index zero = []
tabulate f index (suc n) = f index ∷ tabulate f (suc index) n

-- rows 1 to 6, then 8, then 7; the number of entries
unfoldable pub sheet_answer : List Point → ℕ → ℕ → ℕ → ℕ → Answer ℕ
sheet_answer ps code start step entries =
    curve_rows ps code then row (bad_sheet step entries) 8 0
    then entry_rows ps start step entries then gives entries

-- the list after the call, by its answer: into every entry the factor at its area, or what it held
unfoldable pub sheet_list : List Point → ℕ → ℕ → ℕ → Answer ℕ → List ℤ → List ℤ
sheet_list ps code start step (gives n) out = tabulate (λ index. factor ps code (entry_area start step index)) 0 n
sheet_list ps code start step (refused number place) out = out
