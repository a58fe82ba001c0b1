-- Document 01, "The curve file".
-- Assumes nothing.
use Rattle.std.specs.Prelude.{ℕ, zero, suc, ◌+◌, ◌*◌, cond, List, ltb, ℤ, pos, ◌-ℤ◌, get_or}
use Rattle.model.specs.Points.{Point}
use Rattle.model.specs.Sheet.{tabulate}

-- bytes 0 to 6, then 12 bytes a point
abbrev pub head_size : ℕ
head_size = 7

abbrev pub record_size : ℕ
record_size = 12

abbrev pub point_offset : ℕ → ℕ
point_offset i = head_size + record_size * i

-- two's complement, of a number of 4 bytes
unfoldable pub twos_complement : ℕ → ℤ
twos_complement x = cond (ltb x 2147483648) (pos x) (pos x -ℤ pos 4294967296)

module _ (bytes : List ℕ) where
  abbrev pub byte : ℕ → ℕ
  byte at = get_or bytes at 0

  -- little-endian: the number of n bytes from an offset on
  unfoldable pub little_endian : ℕ → ℕ → ℕ
  little_endian at zero = 0
  little_endian at (suc n) = byte at + 256 * little_endian (suc at) n

  -- bytes 3 and 4 the version; byte 5 the shape code; byte 6 the count
  abbrev pub version : ℕ
  version = little_endian 3 2

  abbrev pub shape_code : ℕ
  shape_code = byte 5

  abbrev pub count : ℕ
  count = byte 6

  -- area and value, 4 bytes each, unsigned, and slope, 4 bytes, two's complement
  unfoldable pub record_at : ℕ → Point
  record_at i =
      record {
        area = little_endian (point_offset i) 4;
        value = little_endian (point_offset i + 4) 4;
        slope = twos_complement (little_endian (point_offset i + 8) 4);
      }

  -- all points of the file
  abbrev pub points_of : List Point
  points_of = tabulate record_at 0 count
