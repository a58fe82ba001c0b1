-- What is proved of the desk readings' answers. Proofs: proofs/Apart.antt, proofs/Same.antt.
-- Assumes nothing.
use Rattle.std.specs.Prelude.{ℕ, ◌*◌, ◌≡◌, List, ltb, ℤ, pos, neg_ℤ, ◌≤ℤ◌}
use Rattle.model.specs.Answer.{Answer, gives, refused}
use Rattle.layout.specs.Layout.{record_size, count}
use Rattle.desk_answer.specs.Desk.{answer_with, desk_answer, desk_answer_two, desk_number}

-- a factor is at least −200,000, the number of a refusal at most −1,000,001
unfoldable pub Apart : Answer ℤ → Type 0
Apart (gives factor) = neg_ℤ (pos 200000) ≤ℤ desk_number (gives factor)
Apart (refused number place) = desk_number (refused number place) ≤ℤ neg_ℤ (pos 1000001)

-- whatever the file, the area, the scratch's length and what it must be: no factor is taken for a refusal
abbrev pub FactorsAndRefusalsApart : Type 0
FactorsAndRefusalsApart = (room : ℕ) (bytes : List ℕ) (area scratch : ℕ) → Apart (answer_with room bytes area scratch)

-- document 02, item 5: for each file and area both desk readings give the same answer, and so the same number, unless the scratch
-- length decides. The first is lent `all` bytes, the second `two`.
pub record SameAnswer (bytes : List ℕ) (area all two : ℕ) : Type 0 where
  -- both scratches are too short, or neither is
  pub alike : ltb all (record_size * count bytes) ≡ ltb two (2 * record_size) →
      desk_answer bytes area all ≡ desk_answer_two bytes area two
  -- neither reading says 11
  pub unless_11 : (desk_answer bytes area all ≡ refused 11 0 → ⊥) → (desk_answer_two bytes area two ≡ refused 11 0 → ⊥) →
      desk_answer bytes area all ≡ desk_answer_two bytes area two
