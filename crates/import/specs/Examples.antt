-- Imports by computation: triples, each with the answer that document 02, item 7, asks for, and the lists after the call.
-- Assumes nothing.
use Rattle.std.specs.Prelude.{ℕ, ◌+◌, ◌*◌, ◌≡◌, List, [], ◌∷◌, ◌++◌, ℤ, pos, take, drop}
use Rattle.model.specs.Answer.{Answer, gives, refused}
use Rattle.import.specs.Import.{import_answer}
use Rattle.import.specs.Laws.{import_into, areas_after, values_after, slopes_after}

-- a figure by its last three bytes; the five before these are 0
abbrev pub figure : ℕ → ℕ → ℕ → List ℕ
figure x y z = 0 ∷ 0 ∷ 0 ∷ 0 ∷ 0 ∷ x ∷ y ∷ z ∷ []

-- K3's points, 500/10000/0 and 600/14000/10000, and K9's, 0/0/100 and 100/100/200
unfoldable pub K3 : List ℕ
K3 =
    (figure 64 127 64 ++ figure 136 195 64 ++ figure 0 0 0)
    ++ (figure 192 130 64 ++ figure 88 203 64 ++ figure 136 195 64)

unfoldable pub K9 : List ℕ
K9 = (figure 0 0 0 ++ figure 0 0 0 ++ figure 0 89 64) ++ (figure 0 89 64 ++ figure 0 89 64 ++ figure 0 105 64)

-- the bytes with another figure n: 0 to 2 are the area, value and slope of point 0, and 3 to 5 those of point 1
abbrev pub with_figure : ℕ → List ℕ → List ℕ → List ℕ
with_figure n new bytes = take (8 * n) bytes ++ new ++ drop (8 * n + 8) bytes

abbrev pub minus_zero : List ℕ
minus_zero = figure 0 0 128

abbrev pub one_half : List ℕ
one_half = figure 0 224 63

abbrev pub minus_one : List ℕ
minus_one = figure 0 240 191

-- what the lists hold before
abbrev pub found : List ℕ
found = 7 ∷ 8 ∷ 9 ∷ []

abbrev pub found_slopes : List ℤ
found_slopes = pos 7 ∷ pos 8 ∷ pos 9 ∷ []

-- the answer and the three lists after the call, by a code
abbrev pub imports : ℕ → List ℕ → Answer ℕ × List ℕ × List ℕ × List ℤ
imports code bytes = (
  import_into bytes code found found found_slopes,
  areas_after bytes code found found found_slopes,
  values_after bytes code found found found_slopes,
  slopes_after bytes code found found found_slopes,
)

abbrev pub K3_taken : Answer ℕ × List ℕ × List ℕ × List ℤ
K3_taken = (gives 2, 500 ∷ 600 ∷ 9 ∷ [], 10000 ∷ 14000 ∷ 9 ∷ [], pos 0 ∷ pos 10000 ∷ pos 9 ∷ [])

abbrev pub refuses : ℕ → ℕ → Answer ℕ × List ℕ × List ℕ × List ℤ
refuses number place = (refused number place, found, found, found_slopes)

abbrev pub TakenExamples : Type 0
TakenExamples =
    (imports 2 K3 ≡ K3_taken)
    -- minus zero is zero
    × (imports 2 (with_figure 2 minus_zero K3) ≡ K3_taken)
    -- lists of two entries are enough
    × (import_answer K3 2 2 2 2 ≡ gives 2)

-- no finite whole number: refused 14 at its point
abbrev pub NotWholeExamples : Type 0
NotWholeExamples =
    (imports 2 (with_figure 2 one_half K3) ≡ refuses 14 0)
    -- a quiet not-a-number, and a signalling one with a payload and a sign
    × (imports 2 (with_figure 3 (figure 0 248 127) K3) ≡ refuses 14 1)
    × (imports 2 (with_figure 4 (5 ∷ 4 ∷ 3 ∷ 2 ∷ 1 ∷ 0 ∷ 240 ∷ 255 ∷ []) K3) ≡ refuses 14 1)
    -- both infinities
    × (imports 2 (with_figure 5 (figure 0 240 127) K3) ≡ refuses 14 1)
    × (imports 2 (with_figure 3 (figure 0 240 255) K3) ≡ refuses 14 1)
    -- the least number above 0, and the next after 600
    × (imports 2 (with_figure 1 (1 ∷ 0 ∷ 0 ∷ 0 ∷ 0 ∷ 0 ∷ 0 ∷ 0 ∷ []) K3) ≡ refuses 14 0)
    × (imports 2 (with_figure 3 (1 ∷ 0 ∷ 0 ∷ 0 ∷ 0 ∷ 192 ∷ 130 ∷ 64 ∷ []) K3) ≡ refuses 14 1)

-- whole numbers beyond the limits: refused 3, 4 and 5 as ever, however large; a negative area by 3, a negative value by 4
abbrev pub LimitExamples : Type 0
LimitExamples =
    -- 10^300 (the nearest to it), and −1
    (imports 2 (with_figure 3 (156 ∷ 117 ∷ 0 ∷ 136 ∷ 60 ∷ 228 ∷ 55 ∷ 126 ∷ []) K3) ≡ refuses 3 1)
    × (imports 2 (with_figure 0 minus_one K3) ≡ refuses 3 0) × (imports 2 (with_figure 4 minus_one K3) ≡ refuses 4 1)
    -- 2^53
    × (imports 2 (with_figure 5 (figure 0 64 67) K3) ≡ refuses 5 1)
    -- the shape
    × (imports 2 K9 ≡ refuses 6 0)

-- 13, 11, 1, 2, then at each point 14 just before 3, 4 and 5
abbrev pub OrderExamples : Type 0
OrderExamples =
    -- 47 bytes; one point, that is no whole one
    let one_point = take 24 (with_figure 2 one_half K3) in
    (import_answer (drop 1 K3) 0 0 0 0 ≡ refused 13 0) × (import_answer one_point 0 0 0 0 ≡ refused 11 0)
    × (import_answer one_point 0 1 1 1 ≡ refused 1 0) × (imports 0 (with_figure 0 one_half K3) ≡ refuses 2 0)
    -- no bytes at all
    × (import_answer [] 0 0 0 0 ≡ refused 1 0)
    -- one list of a single entry
    × (import_answer K3 2 2 2 1 ≡ refused 11 0)
    -- an area of −1 and a slope of one half at one point
    × (imports 2 (with_figure 3 minus_one (with_figure 5 one_half K3)) ≡ refuses 14 1)
    -- an area of −1 at point 0 and one half at point 1
    × (imports 2 (with_figure 0 minus_one (with_figure 5 one_half K3)) ≡ refuses 3 0)
    -- and before the shape
    × (imports 2 (with_figure 5 one_half K9) ≡ refuses 14 1)

abbrev pub ImportExamples : Type 0
ImportExamples = TakenExamples × NotWholeExamples × LimitExamples × OrderExamples
