-- What the definitions give: document 01's example, and that the first 776 bytes of a file decide.
-- Assumes nothing.
use Rattle.std.specs.Prelude.{ℕ, ◌≡◌, List, [], ◌∷◌, ◌++◌, take}
use Rattle.text.specs.Text.{ascii}
use Rattle.sheet_text.specs.SheetText.{sheet_text}

-- the 31 bytes
unfoldable pub file : List ℕ
file =
    84 ∷ 82 ∷ 70 ∷ 1 ∷ 0 ∷ 2 ∷ 2
    ∷ 244 ∷ 1 ∷ 0 ∷ 0 ∷ 16 ∷ 39 ∷ 0 ∷ 0 ∷ 0 ∷ 0 ∷ 0 ∷ 0
    ∷ 88 ∷ 2 ∷ 0 ∷ 0 ∷ 176 ∷ 54 ∷ 0 ∷ 0 ∷ 16 ∷ 39 ∷ 0 ∷ 0 ∷ []

-- 0/0/−300 and 50/0/300, convex: the curve dips below zero
unfoldable pub dips : List ℕ
dips =
    84 ∷ 82 ∷ 70 ∷ 1 ∷ 0 ∷ 2 ∷ 2
    ∷ 0 ∷ 0 ∷ 0 ∷ 0 ∷ 0 ∷ 0 ∷ 0 ∷ 0 ∷ 212 ∷ 254 ∷ 255 ∷ 255
    ∷ 50 ∷ 0 ∷ 0 ∷ 0 ∷ 0 ∷ 0 ∷ 0 ∷ 0 ∷ 44 ∷ 1 ∷ 0 ∷ 0 ∷ []

abbrev pub TextExamples : Type 0
TextExamples =
    (sheet_text file ≡ ascii "shape 2 points 2\n500 10000\n525 10182\n550 10800\n575 12000\n600 14000\n")
    × (sheet_text dips ≡ ascii "shape 2 points 2\n0 0\n25 -38\n50 0\n")
    × (sheet_text [] ≡ ascii "refused 9 at 0\n")
    × (sheet_text (file ++ 0 ∷ []) ≡ ascii "refused 10 at 0\n")

-- a program that reads no more than 776 bytes prints the same
abbrev pub FirstBytesDecide : Type 0
FirstBytesDecide = (bytes : List ℕ) → sheet_text (take 776 bytes) ≡ sheet_text bytes
