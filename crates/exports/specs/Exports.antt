-- The C interface: the one signed number that a call gives, and what `curve_pair` adds to Pair.
-- Assumes nothing.
use Rattle.std.specs.Prelude.{ℕ, ◌+◌, ◌*◌, List, ◌∷◌, ltb, ℤ, pos, neg_ℤ, drop}
use Rattle.model.specs.Answer.{Answer, gives, refused, row, ◌then◌}
use Rattle.model.specs.Check.{on_lists}
use Rattle.pair.specs.Pair.{Factors, pair_answer}
use Rattle.file.specs.Open.{ShapeAndCount}

-- 2^32
abbrev pub word : ℕ
word = 4294967296

-- the result as a number, or a refusal as −(2^32 × number + place)
unfoldable pub c_number : {A : Type 0} → (A → ℤ) → Answer A → ℤ
c_number result (gives x) = result x
c_number result (refused number place) = neg_ℤ (pos (word * number + place))

-- the factors that `curve_pair` writes
abbrev pub pair_entries : ℕ
pair_entries = 3

-- a list shorter than three is refused 11 at 0, before all other rows
unfoldable pub c_pair_answer : List ℕ → List ℕ → List ℤ → ℕ → ℕ → ℕ → ℕ → Answer Factors
c_pair_answer areas values slopes code form plan entries =
    row (ltb entries pair_entries) 11 0 then on_lists areas values slopes (λ ps. pair_answer ps code form plan)

-- the list after the call, by the answer: the three factors, and the entries after them as found; or all as found
unfoldable pub c_pair_list : Answer Factors → List ℤ → List ℤ
c_pair_list (gives f) out = f.form ∷ f.plan ∷ f.difference ∷ drop pair_entries out
c_pair_list (refused number place) out = out

-- the result of `curve_open`: 256 × shape + count
unfoldable pub c_shape_and_count : ShapeAndCount → ℤ
c_shape_and_count head = pos (256 * head.shape + head.count)
