-- Document 01, "The curve file": the 31 bytes that are printed there, opened, read by the desk, and written.
-- Assumes nothing.
use Rattle.std.specs.Prelude.{ℕ, ◌≡◌, List, [], ◌∷◌, ◌++◌, map, pos, neg_ℤ, drop}
use Rattle.model.specs.Answer.{gives, refused, filled}
use Rattle.model.specs.Points.{Point}
use Rattle.layout.specs.Layout.{points_of}
use Rattle.encoding.specs.File.{record_bytes, file_bytes}
use Rattle.file.specs.Open.{open_answer}
use Rattle.file.specs.Write.{write_answer}
use Rattle.desk_answer.specs.Desk.{desk_answer, desk_answer_two, desk_number, point_records, segment_records}

-- the two point records, and the file
unfoldable pub records : List ℕ
records =
    244 ∷ 1 ∷ 0 ∷ 0 ∷ 16 ∷ 39 ∷ 0 ∷ 0 ∷ 0 ∷ 0 ∷ 0 ∷ 0
    ∷ 88 ∷ 2 ∷ 0 ∷ 0 ∷ 176 ∷ 54 ∷ 0 ∷ 0 ∷ 16 ∷ 39 ∷ 0 ∷ 0 ∷ []

unfoldable pub file : List ℕ
file = 84 ∷ 82 ∷ 70 ∷ 1 ∷ 0 ∷ 2 ∷ 2 ∷ records

-- one point only: row 1, where no earlier row applies
unfoldable pub one_point : List ℕ
one_point = 84 ∷ 82 ∷ 70 ∷ 1 ∷ 0 ∷ 2 ∷ 1 ∷ 244 ∷ 1 ∷ 0 ∷ 0 ∷ 16 ∷ 39 ∷ 0 ∷ 0 ∷ 0 ∷ 0 ∷ 0 ∷ 0 ∷ []

-- a third point, 700/24000/10000; the file of the three, and the records of its second segment
unfoldable pub third : List ℕ
third = 188 ∷ 2 ∷ 0 ∷ 0 ∷ 192 ∷ 93 ∷ 0 ∷ 0 ∷ 16 ∷ 39 ∷ 0 ∷ 0 ∷ []

unfoldable pub three : List ℕ
three = 84 ∷ 82 ∷ 70 ∷ 1 ∷ 0 ∷ 2 ∷ 3 ∷ (records ++ third)

unfoldable pub later : List ℕ
later = drop 12 records ++ third

-- K9's points, which have not their shape
unfoldable pub shapeless : List Point
shapeless = record { area = 0; value = 0; slope = pos 100 } ∷ record { area = 100; value = 100; slope = pos 200 } ∷ []

-- document 02, item 1
abbrev pub WriteExample : Type 0
WriteExample =
    -- the two points make the 31 bytes; a buffer of 33 keeps its last two
    (file_bytes (points_of file) 2 ≡ file) × (write_answer (points_of file) 2 33 ≡ gives 31)
    × (filled (write_answer (points_of file) 2 33) (file_bytes (points_of file) 2)
    (records ++ 1 ∷ 2 ∷ 3 ∷ 4 ∷ 5 ∷ 6 ∷ 7 ∷ 8 ∷ 9 ∷ [])
    ≡ file ++ 8 ∷ 9 ∷ [])
    -- 31 bytes are enough, 30 are not; row 6 is before row 12
    × (write_answer (points_of file) 2 31 ≡ gives 31) × (write_answer (points_of file) 2 30 ≡ refused 12 0)
    × (write_answer shapeless 2 0 ≡ refused 6 0)
    -- numbers of three bytes, and one below 0
    × (record_bytes (record { area = 20000; value = 200000; slope = neg_ℤ (pos 900) })
    ≡ 32 ∷ 78 ∷ 0 ∷ 0 ∷ 64 ∷ 13 ∷ 3 ∷ 0 ∷ 124 ∷ 252 ∷ 255 ∷ 255 ∷ [])

abbrev pub FileExample : Type 0
FileExample =
    -- Open, with lists of three entries, two and two
    (open_answer file 3 2 2 ≡ gives (record { shape = 2; count = 2 }))
    × (filled (open_answer file 3 2 2) (map (λ p. p.area) (points_of file)) (7 ∷ 8 ∷ 9 ∷ []) ≡ 500 ∷ 600 ∷ 9 ∷ [])
    × (filled (open_answer file 3 2 2) (map (λ p. p.value) (points_of file)) (7 ∷ 8 ∷ []) ≡ 10000 ∷ 14000 ∷ [])
    × (filled (open_answer file 3 2 2) (map (λ p. p.slope) (points_of file)) (pos 7 ∷ pos 8 ∷ []) ≡ pos 0 ∷ pos 10000 ∷ [])
    -- the desk at 550, with a scratch of 25 bytes, and of 23
    × (desk_number (desk_answer file 550 25) ≡ pos 10800) × (desk_number (desk_answer file 550 23) ≡ neg_ℤ (pos 1000011))
    × (filled (desk_answer file 550 25) (point_records file) (5 ∷ records) ≡ records ++ 0 ∷ [])
    -- rows 9, 10, 11 and 1 in their order: mark, length, scratch and count are wrong; then all but the mark; and so on
    × (desk_answer (85 ∷ one_point) 550 0 ≡ refused 9 0) × (desk_answer (one_point ++ 0 ∷ []) 550 0 ≡ refused 10 0)
    × (desk_answer one_point 550 0 ≡ refused 11 0) × (desk_answer one_point 550 12 ≡ refused 1 0)

-- document 02, item 5
abbrev pub DeskTwoExample : Type 0
DeskTwoExample =
    -- 24 bytes are enough, 23 are not
    (desk_number (desk_answer_two file 550 24) ≡ pos 10800) × (desk_number (desk_answer_two file 550 23) ≡ neg_ℤ (pos 1000011))
    -- the records of the segment read, and a byte after them: before the inner point, at it, at the last area
    × (filled (desk_answer_two three 599 25) (segment_records three 599) (later ++ 9 ∷ []) ≡ records ++ 9 ∷ [])
    × (filled (desk_answer_two three 600 25) (segment_records three 600) (records ++ 9 ∷ []) ≡ later ++ 9 ∷ [])
    × (filled (desk_answer_two three 700 25) (segment_records three 700) (records ++ 9 ∷ []) ≡ later ++ 9 ∷ [])
    × (desk_answer_two three 600 24 ≡ gives (pos 14000)) × (desk_answer_two three 700 24 ≡ gives (pos 24000))
    -- beyond it: as found
    × (filled (desk_answer_two three 701 25) (segment_records three 701) (later ++ 9 ∷ []) ≡ later ++ 9 ∷ [])
    -- where the scratch length decides: three points and 24 bytes; one point and 12
    × (desk_answer three 600 24 ≡ refused 11 0) × (desk_answer one_point 550 12 ≡ refused 1 0)
    × (desk_answer_two one_point 550 12 ≡ refused 11 0) × (desk_answer_two one_point 550 24 ≡ refused 1 0)
    -- rows 9 and 10 before it
    × (desk_answer_two (85 ∷ one_point) 550 0 ≡ refused 9 0) × (desk_answer_two (one_point ++ 0 ∷ []) 550 0 ≡ refused 10 0)
