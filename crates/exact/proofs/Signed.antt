-- Signed numbers in machine words, by their sign. A number z is natural where `z ≡ pos (nat_abs z)`.
--   cast-of-natural              a natural number may be cast to an unsigned one
--   complement z                 −1 − z, which takes `pos m` to `negsuc m`
-- Assumes nothing.
use mathlib.Core.Path.{◌≡◌}
use mathlib.Core.List.{[], ◌∷◌}
use Prim.Native.Nat.{ℕ}
use lib.Dec.{T, ltb}
use lib.IntN.{ℤ, pos, negsuc, neg_ℤ, nat_abs, one, ◌-ℤ◌, negsuc-eq}
use lib.Signed.{non_neg}
use mir.Syntax.{Width}
use mir.Val.{Fits, SFits, bits, hbits}
use mir.Facts.{Fits-nat_abs}
use Rattle.exact.proofs.Ring.{ring, terms}

-- w' has room for what is not negative in w
pub cast-of-natural : {w w' : Width} {z : ℤ} →
    T (ltb (hbits w) (bits w')) →
    SFits w z →
    z ≡ pos (nat_abs z) →
    T (non_neg z) × Fits w' (nat_abs z)
cast-of-natural {z = z} t f e = (rw e tt, Fits-nat_abs t f)

abbrev pub complement : ℤ → ℤ
complement z = neg_ℤ (pos 1) -ℤ z

pub complement_pos : (m : ℕ) → complement (pos m) ≡ negsuc m
unfolding one
complement_pos m = rw (negsuc-eq m) (ring (pos m ∷ []) (search terms depth 20 fits 9999) tt)
