-- Numbers of bytes.
--   two_bytes, four_bytes     a number of so many bytes, as a sum
--   low_half, high_half       two's complement of a number below 2 ^ 31, and of one from there on; signed_word, of a word
-- Assumes nothing.
use mathlib.Core.Path.{◌≡◌, sym, ◌∙◌, ap}
use mathlib.Core.Bool.{cond}
use mathlib.Core.Logic.{inl, inr}
use mathlib.Core.List.{List, [], ◌∷◌}
use Prim.Native.Nat.{ℕ, suc, ◌+◌, ◌*◌, ◌-◌, ◌≤◌, ◌<◌}
use native.Mathlib.Omega.{arith}
use borrow.Author.Tests.{lt-ltb, le-ltb}
use lib.IntN.{pos, neg_ℤ, ◌+ℤ◌, ◌-ℤ◌}
use mir.Syntax.{w32}
use mir.Val.{to_z}
use mir.Facts.{to_z_pos, to_z-neg}
use Rattle.exact.proofs.Tests.{compare}
use Rattle.exact.proofs.Ring.{ring, terms}
use Rattle.exact.proofs.Signed.{complement, complement_pos}
use Rattle.layout.specs.Layout.{twos_complement, byte, little_endian}

module _ (bytes : List ℕ) (at : ℕ) where
  pub two_bytes : little_endian bytes at 2 ≡ byte bytes at + 256 * byte bytes (suc at)
  unfolding little_endian
  two_bytes = omega arith

  pub four_bytes : little_endian bytes at 4
      ≡ byte bytes at + 256 * byte bytes (at + 1) + 65536 * byte bytes (at + 2) + 16777216 * byte bytes (at + 3)
  unfolding little_endian
  four_bytes =
      let e₁ : at + 1 ≡ suc at = omega arith in
      let e₂ : at + 2 ≡ suc (suc at) = omega arith in
      let e₃ : at + 3 ≡ suc (suc (suc at)) = omega arith in
      rw (e₁, e₂, e₃) (omega arith)

pub low_half : {x : ℕ} → x < 2147483648 → twos_complement x ≡ pos x
unfolding twos_complement
low_half {x} h = ap (λ b. cond b (pos x) (pos x -ℤ pos 4294967296)) (lt-ltb x 2147483648 h)

pub high_half : {x : ℕ} → 2147483648 ≤ x → x < 4294967296 → twos_complement x ≡ complement (pos (4294967295 - x))
unfolding twos_complement
high_half {x} h k =
    let e : 4294967296 ≡ x + (4294967295 - x) + 1 = omega arith in
    rw (le-ltb x 2147483648 h) (ap (λ n. pos x -ℤ pos n) e ∙ turned (4294967295 - x))
  where
    turned : (m : ℕ) → pos x -ℤ (pos x +ℤ pos m +ℤ pos 1) ≡ neg_ℤ (pos 1) -ℤ pos m
    turned m = ring (pos x ∷ pos m ∷ []) (search terms depth 20 fits 9999) tt

-- the signed number of a word
pub signed_word : {x : ℕ} → x < 4294967296 → to_z w32 x ≡ twos_complement x
signed_word {x} h = elim (compare 2147483648 x) [
  | inl (k, t) ↦
      let e : x ≡ 4294967296 - suc (4294967295 - x) = omega arith in
      rw (high_half k h, complement_pos (4294967295 - x)) (ap (to_z w32) e ∙ to_z-neg w32 (4294967295 - x) (omega arith))
  | inr (k, t) ↦ to_z_pos w32 k ∙ sym (low_half k)
]
