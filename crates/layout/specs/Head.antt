-- Document 01: rows 9 and 10, of a curve file's head.
-- Assumes nothing.
use Rattle.std.specs.Prelude.{ℕ, ◌+◌, ◌*◌, Bool, not, ◌||◌, List, eqb, ltb, length}
use Rattle.model.specs.Answer.{Answer, row, ◌then◌}
use Rattle.layout.specs.Layout.{head_size, record_size, byte, version, count}

-- bytes 0 to 2 are the letters TRF (84, 82, 70 decimal)
unfoldable pub wrong_mark : List ℕ → Bool
wrong_mark bytes = not (eqb (byte bytes 0) 84) || not (eqb (byte bytes 1) 82) || not (eqb (byte bytes 2) 70)

-- row 9: file under 7 bytes, wrong mark, or version other than 1
unfoldable pub bad_head : List ℕ → Bool
bad_head bytes = ltb (length bytes) head_size || wrong_mark bytes || not (eqb (version bytes) 1)

-- row 10: file length is not 7 + 12 × count
unfoldable pub bad_size : List ℕ → Bool
bad_size bytes = not (eqb (length bytes) (head_size + record_size * count bytes))

-- rows 9 and 10
unfoldable pub head_rows : List ℕ → Answer (Unit {0})
head_rows bytes = row (bad_head bytes) 9 0 then row (bad_size bytes) 10 0
