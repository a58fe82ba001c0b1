-- Document 02, item 1: the file of a curve, after document 01, "The curve file", from the points to the bytes.
-- Assumes nothing.
use Rattle.std.specs.Prelude.{ℕ, zero, suc, ◌-◌, ◌/◌, ◌%◌, ℤ, pos, negsuc, length}
use mathlib.Core.List.{List, [], ◌∷◌, ◌++◌, flat_map}
use Rattle.model.specs.Points.{Point}

-- little-endian: a number in n bytes
unfoldable pub in_bytes : ℕ → ℕ → List ℕ
in_bytes zero x = []
in_bytes (suc n) x = x % 256 ∷ in_bytes n (x / 256)

-- two's complement, as a number of 4 bytes; negsuc n is −(n + 1), to which 2^32 is added
unfoldable pub in_twos_complement : ℤ → ℕ
in_twos_complement (pos n) = n
in_twos_complement (negsuc n) = 4294967296 - suc n

-- area and value, 4 bytes each, unsigned, and slope, 4 bytes, two's complement
unfoldable pub record_bytes : Point → List ℕ
record_bytes p = in_bytes 4 p.area ++ in_bytes 4 p.value ++ in_bytes 4 (in_twos_complement p.slope)

-- bytes 0 to 2 the letters TRF (84, 82, 70 decimal); 3 and 4 the version, 1; byte 5 the shape code; byte 6 the count
unfoldable pub head_bytes : ℕ → ℕ → List ℕ
head_bytes code count = (84 ∷ 82 ∷ 70 ∷ []) ++ in_bytes 2 1 ++ (code ∷ count ∷ [])

-- the head, then 12 bytes a point
unfoldable pub file_bytes : List Point → ℕ → List ℕ
file_bytes ps code = head_bytes code (length ps) ++ flat_map record_bytes ps
