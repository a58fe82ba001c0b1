-- The machine's bytes of a number are those of document 02.
--   word_bytes     the 4 bytes that `to_le_bytes` gives
--   slope_bits     the bits of a signed number
-- Assumes nothing.
use Rattle.std.proofs.Common.{◌≡◌, ℕ, ◌/◌, ℤ, pos, negsuc, refl, arith, w32, of_z}
use Rattle.std.specs.Int.{to_le_bytes}
use Rattle.encoding.specs.File.{in_bytes, in_twos_complement}

pub word_bytes : (x : ℕ) → to_le_bytes w32 x ≡ in_bytes 4 x
unfolding in_bytes
word_bytes x =
    let second : x / 256 / 256 ≡ x / 65536 = omega arith in
    let third : x / 256 / 256 / 256 ≡ x / 16777216 = omega arith in
    rw (third, second)

pub slope_bits : (z : ℤ) → of_z w32 z ≡ in_twos_complement z
unfolding in_twos_complement
slope_bits (pos n) = refl
slope_bits (negsuc n) = refl
