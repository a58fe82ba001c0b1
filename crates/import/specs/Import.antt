-- Document 02, item 7: what Import answers.
-- Assumes nothing.
use Rattle.std.specs.Prelude.{ℕ, List, map}
use Rattle.model.specs.Answer.{Answer, gives, row, ◌then◌}
use Rattle.model.specs.Points.{Point}
use Rattle.file.specs.Open.{short_list}
use Rattle.triples.specs.Triples.{bad_length, count, exported, point_from, export_rows}

-- the points of the export
abbrev pub points_of : List ℕ → List Point
points_of bytes = map point_from (exported bytes)

-- rows 13, 11, 1, 2, then at each point 14, 3, 4 and 5, then 6, of the bytes, a shape code and the lengths of the lent lists; the
-- count
unfoldable pub import_answer : List ℕ → ℕ → ℕ → ℕ → ℕ → Answer ℕ
import_answer bytes code areas values slopes =
    row (bad_length bytes) 13 0 then row (short_list (count bytes) areas values slopes) 11 0
    then export_rows (exported bytes) code then gives (count bytes)
