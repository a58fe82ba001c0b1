-- Document 01: row 11, and what Open answers.
-- Assumes nothing.
use Rattle.std.specs.Prelude.{ℕ, Bool, ◌||◌, List, ltb}
use Rattle.model.specs.Answer.{Answer, gives, row, ◌then◌}
use Rattle.model.specs.Check.{curve_rows}
use Rattle.layout.specs.Layout.{shape_code, count, points_of}
use Rattle.layout.specs.Head.{head_rows}

-- row 11, Open: a lent list is shorter than the count
unfoldable pub short_list : ℕ → ℕ → ℕ → ℕ → Bool
short_list count areas values slopes = ltb areas count || ltb values count || ltb slopes count

-- shape and count
pub record ShapeAndCount : Type 0 where
  pub shape : ℕ
  pub count : ℕ

-- rows 9, 10, 11 and 1 to 6, of the bytes and the lengths of the lent lists
unfoldable pub open_answer : List ℕ → ℕ → ℕ → ℕ → Answer ShapeAndCount
open_answer bytes areas values slopes =
    head_rows bytes then row (short_list (count bytes) areas values slopes) 11 0
    then curve_rows (points_of bytes) (shape_code bytes)
    then gives (record { shape = shape_code bytes; count = count bytes })
