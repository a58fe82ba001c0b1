-- Document 02, item 1: what Write answers.
-- Assumes nothing.
use Rattle.std.specs.Prelude.{ℕ, Bool, List, ltb, length}
use Rattle.model.specs.Answer.{Answer, gives, row, ◌then◌}
use Rattle.model.specs.Points.{Point}
use Rattle.model.specs.Check.{curve_rows}
use Rattle.layout.specs.Layout.{point_offset}

-- row 12: the buffer is shorter than 7 + 12 × count
unfoldable pub short_buffer : ℕ → ℕ → Bool
short_buffer count buffer = ltb buffer (point_offset count)

-- rows 1 to 6 and 12, of points, a shape code and the buffer's length; the length of the file
unfoldable pub write_answer : List Point → ℕ → ℕ → Answer ℕ
write_answer ps code buffer =
    curve_rows ps code then row (short_buffer (length ps) buffer) 12 0 then gives (point_offset (length ps))
