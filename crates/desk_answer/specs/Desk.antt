-- Document 01, and document 02, item 5: what the two desk readings answer, the number that they give, and what their scratch
-- begins with after a factor.
-- Assumes nothing.
use Rattle.std.specs.Prelude.{ℕ, ◌*◌, List, ltb, ℤ, pos, neg_ℤ, ◌-ℤ◌, take, drop}
use Rattle.model.specs.Answer.{Answer, gives, refused, row, ◌then◌}
use Rattle.model.specs.Read.{segment_read, read_answer}
use Rattle.layout.specs.Layout.{head_size, record_size, point_offset, shape_code, count, points_of}
use Rattle.layout.specs.Head.{head_rows}

-- of how many bytes the scratch must have, the file, the area and the scratch's length: rows 9 and 10; 11, scratch too short;
-- then 1 to 6, and 7
unfoldable pub answer_with : ℕ → List ℕ → ℕ → ℕ → Answer ℤ
answer_with room bytes area scratch =
    head_rows bytes then row (ltb scratch room) 11 0 then read_answer (points_of bytes) (shape_code bytes) area

-- document 01: scratch shorter than 12 × count
abbrev pub desk_answer : List ℕ → ℕ → ℕ → Answer ℤ
desk_answer bytes = answer_with (record_size * count bytes) bytes

-- document 02, item 5: scratch under 24 bytes
abbrev pub desk_answer_two : List ℕ → ℕ → ℕ → Answer ℤ
desk_answer_two bytes = answer_with (2 * record_size) bytes

-- one signed number: the factor, or −1,000,000 less the refusal number, without a place
unfoldable pub desk_number : Answer ℤ → ℤ
desk_number (gives factor) = factor
desk_number (refused number place) = neg_ℤ (pos 1000000) -ℤ pos number

-- the point records in file order
unfoldable pub point_records : List ℕ → List ℕ
point_records bytes = take (record_size * count bytes) (drop head_size bytes)

-- document 02, item 5: the two records of the segment read
unfoldable pub segment_records : List ℕ → ℕ → List ℕ
segment_records bytes area = take (2 * record_size) (drop (point_offset (segment_read (points_of bytes) area)) bytes)
