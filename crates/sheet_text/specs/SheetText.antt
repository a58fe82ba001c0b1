-- Document 01, "The curve file": what the program `ratesheet` prints for the bytes of a file.
-- Assumes nothing.
use Rattle.std.specs.Prelude.{ℕ, zero, suc, ◌+◌, ◌-◌, ◌/◌, List, [], ◌∷◌, ◌++◌, ltb, ℤ, length}
use Rattle.model.specs.Answer.{Answer, gives, refused, row, ◌then◌}
use Rattle.model.specs.Points.{points_most, Point}
use Rattle.model.specs.Read.{factor, last_area}
use Rattle.layout.specs.Layout.{point_offset, points_of}
use Rattle.layout.specs.Head.{bad_head}
use Rattle.file.specs.Open.{ShapeAndCount, open_answer}
use Rattle.text.specs.Text.{ascii, decimal, signed}

-- a line of two words, each with its number
unfoldable pub words_line : List ℕ → ℕ → List ℕ → ℕ → List ℕ
words_line first a second b = first ++ decimal a ++ second ++ decimal b ++ ascii "\n"

-- shape code and count on a first line
abbrev pub head_line : ℕ → ℕ → List ℕ
head_line shape count = words_line (ascii "shape ") shape (ascii " points ") count

abbrev pub refusal_line : ℕ → ℕ → List ℕ
refusal_line number place = words_line (ascii "refused ") number (ascii " at ") place

-- an area and its factor
unfoldable pub entry_line : ℕ → ℤ → List ℕ
entry_line area factor = decimal area ++ ascii " " ++ signed factor ++ ascii "\n"

-- from one area of the sheet to the next: 25 tenths
abbrev pub step : ℕ
step = 25

-- n lines, from an area on
unfoldable pub entry_lines : List Point → ℕ → ℕ → ℕ → List ℕ
entry_lines ps code area zero = []
entry_lines ps code area (suc n) = entry_line area (factor ps code area) ++ entry_lines ps code (area + step) n

-- a line for each area from the first point's on, in steps, up to the last point's
unfoldable pub sheet_lines : List Point → ℕ → List ℕ
sheet_lines [] code = []
sheet_lines (p ∷ ps) code = entry_lines (p ∷ ps) code p.area ((last_area p ps - p.area) / step + 1)

-- the rows are Open's; in addition more than 775 bytes are refused 10 once row 9 is passed
unfoldable pub file_answer : List ℕ → Answer ShapeAndCount
file_answer bytes =
    row (bad_head bytes) 9 0 then row (ltb (point_offset points_most) (length bytes)) 10 0
    then open_answer bytes points_most points_most points_most

-- a refusal is one line and no sheet
unfoldable pub answer_text : List Point → Answer ShapeAndCount → List ℕ
answer_text ps (gives head) = head_line head.shape head.count ++ sheet_lines ps head.shape
answer_text ps (refused number place) = refusal_line number place

unfoldable pub sheet_text : List ℕ → List ℕ
sheet_text bytes = answer_text (points_of bytes) (file_answer bytes)
