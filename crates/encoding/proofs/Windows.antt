-- Numbers of bytes, and the window of a list in which they are.
--   le_window      the number in a window of a list is the number in the list
--   in_bytes_le    the bytes of the number in a list are those of the list; le_small, which is small
--   bytes_are      the bytes of a window, one by one
--   twos, twos_back    two's complement, there and back; twos_small, a number of 4 bytes
-- Assumes nothing.
use mathlib.Core.Path.{◌≡◌, refl, ◌∙◌, ap}
use mathlib.Core.List.{List}
use mathlib.Core.Logic.{inl, inr}
use Prim.Native.Nat.{ℕ, zero, suc, ◌+◌, ◌*◌, ◌-◌, ◌/◌, ◌%◌, ◌≤◌, ◌<◌}
use native.Mathlib.Omega.{arith}
use lib.IntN.{ℤ, pos, negsuc, nat_abs}
use lib.ListN.{length, take, drop}
use lib.Seq.{get_or-take, get_or-drop, drop-cons}
use Rattle.exact.proofs.Tests.{compare}
use Rattle.exact.proofs.Signed.{complement, complement_pos}
use Rattle.model.specs.Sheet.{tabulate}
use Rattle.layout.specs.Layout.{twos_complement, byte, little_endian}
use Rattle.layout.proofs.Numbers.{low_half, high_half}
use Rattle.encoding.specs.File.{in_bytes, in_twos_complement}

-- ---- numbers in a list

module _ (bytes : List ℕ) where
  pub le_window : (at size k n : ℕ) → k + n ≤ size →
      little_endian (take size (drop at bytes)) k n ≡ little_endian bytes (at + k) n
  unfolding little_endian
  le_window at size k zero h = refl
  le_window at size k (suc n) h =
      let here = get_or-take size (drop at bytes) k 0 (omega arith) ∙ get_or-drop at bytes k 0 in
      let next : at + suc k ≡ suc (at + k) = omega arith in
      let rest = rw next at (le_window at size (suc k) n (omega arith)) in
      omega (arith, here, rest)

  module _ (small : (at : ℕ) → byte bytes at < 256) where
    pub in_bytes_le : (n at : ℕ) → at + n ≤ length bytes → in_bytes n (little_endian bytes at n) ≡ take n (drop at bytes)
    unfolding in_bytes little_endian
    in_bytes_le zero at h = refl
    in_bytes_le (suc n) at h =
        let x = little_endian bytes (suc at) n in
        let low : (byte bytes at + 256 * x) % 256 ≡ byte bytes at = omega (arith, small at) in
        let high : (byte bytes at + 256 * x) / 256 ≡ x = omega (arith, small at) in
        rw (low, high, in_bytes_le n (suc at) (omega arith), drop-cons bytes at 0 (omega arith))

    pub le_small : (at : ℕ) → little_endian bytes at 4 < 4294967296
    unfolding little_endian
    le_small at =
        omega (arith, small at, small (suc at), small (suc (suc at)), small (suc (suc (suc at))))

    -- the first bytes of a window, one by one
    pub bytes_are : (at n : ℕ) → at + n ≤ length bytes → tabulate (byte bytes) at n ≡ take n (drop at bytes)
    unfolding tabulate
    bytes_are at zero h = refl
    bytes_are at (suc n) h = rw (bytes_are (suc at) n (omega arith), drop-cons bytes at 0 (omega arith))

-- ---- two's complement

pub twos : (z : ℤ) → nat_abs z < 2147483648 → twos_complement (in_twos_complement z) ≡ z
unfolding in_twos_complement
twos (pos n) h = low_half h
twos (negsuc n) h =
    let same : 4294967295 - (4294967296 - suc n) ≡ n = omega arith in
    high_half {x = 4294967296 - suc n} (omega arith) (omega arith) ∙ ap (λ (m : ℕ). complement (pos m)) same ∙ complement_pos n

pub twos_small : (z : ℤ) → nat_abs z < 2147483648 → in_twos_complement z < 4294967296
unfolding in_twos_complement
twos_small (pos n) h = omega arith
twos_small (negsuc n) h = omega arith

pub twos_back : (x : ℕ) → x < 4294967296 → in_twos_complement (twos_complement x) ≡ x
unfolding in_twos_complement
twos_back x h =
    elim (compare 2147483648 x) [
      | inl (high, t) ↦ ap in_twos_complement (high_half high h ∙ complement_pos (4294967295 - x)) ∙ omega arith
      | inr (low, t) ↦ ap in_twos_complement (low_half low)
    ]
