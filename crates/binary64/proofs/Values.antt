-- When a binary64 number is whole: m × 2^e is n × 1, with its sign.
--   signed_*                   the sign of a product
--   whole_of_value             it is then the number ±n
--   Whole, value_of_whole      and nothing else is a whole number
-- Assumes nothing.
use mathlib.Core.Path.{◌≡◌, refl, sym, ◌∙◌, ap, subst}
use mathlib.Core.Bool.{Bool, true, false}
use mathlib.Core.List.{[], ◌∷◌}
use mathlib.Core.Logic.{◌⊎◌, inl, inr}
use mathlib.Core.Option.{none, some}
use Prim.Native.Nat.{ℕ, ◌*◌, ◌<◌}
use native.Mathlib.Omega.{arith}
use lib.IntN.{ℤ, pos, nat_abs, ◌+ℤ◌, ◌-ℤ◌, ◌*ℤ◌}
use lib.Ieee.{fin, up, down}
use lib.Ieee.Fits.{down_pos}
use Rattle.exact.specs.Fraction.{Fraction, ◌over◌, whole, ◌≈ℚ◌, eqℚ}
use Rattle.exact.specs.Rounding.{floor}
use Rattle.exact.proofs.Integer.{*_one}
use Rattle.exact.proofs.Ring.{ring, terms}
use Rattle.exact.proofs.Order as Z
use Rattle.exact.proofs.Fractions.{≈_of_eqℚ, eqℚ_of_≈}
use Rattle.exact.proofs.Floor.{Quotient, floor_div_unique}
use Rattle.exact.proofs.Magnitude.{size_*, size_neg}
use Rattle.exact.proofs.Tests.{true_or_false, T_true}
use Rattle.binary64.specs.Value.{signed, float_value, whole_of, whole_number}

some_injective : {A : Type 0} {x y : A} → some x ≡ some y → x ≡ y
some_injective e = cc

pub none≢some : {A : Type 0} {x : A} → none ≡ some x → ⊥
none≢some e = let z : ◌≡◌ {A = ℕ} 0 1 = cc in omega arith

pub signed_* : (negative : Bool) (n d : ℕ) → signed negative (n * d) ≡ signed negative n *ℤ pos d
signed_* true n d = ring (pos n ∷ pos d ∷ []) (search terms depth 20 fits 9999) tt
signed_* false n d = ring (pos n ∷ pos d ∷ []) (search terms depth 20 fits 9999) tt

size_signed : (negative : Bool) (n : ℕ) → nat_abs (signed negative n) ≡ n
size_signed true n = size_neg (pos n)
size_signed false n = refl

-- what a quotient that leaves nothing over is above its product
one_more : (q d : ℤ) → (q +ℤ pos 1) *ℤ d -ℤ q *ℤ d ≡ d
one_more q d = ring (q ∷ d ∷ []) (search terms depth 20 fits 9999) tt

exact_quotient : (q : ℤ) (d : ℕ) → 0 < d → Quotient (q *ℤ pos d) d q
exact_quotient q d h = record { low = Z.≤_of_≡ refl; high = Z.<_by (pos d) (one_more q (pos d)) (Z.pos_<_of_< h) }

floor_of_product : (q : ℤ) (d : ℕ) → 0 < d → floor ((q *ℤ pos d) over pos d) ≡ q
unfolding floor ◌over◌
floor_of_product q d h = floor_div_unique h (exact_quotient q d h)

whole_product : (q : ℤ) (d : ℕ) → (q *ℤ pos d) over pos d ≈ℚ whole q
unfolding whole ◌over◌
whole_product q d = record { cross = *_one (q *ℤ pos d) }

whole_of_product : (q : ℤ) (d : ℕ) → 0 < d → whole_of (some ((q *ℤ pos d) over pos d)) ≡ some q
unfolding whole_of
whole_of_product q d h =
    rw (floor_of_product q d h, T_true (eqℚ ((q *ℤ pos d) over pos d) (whole q)) (eqℚ_of_≈ (whole_product q d))) refl

pub whole_of_value : (negative : Bool) (m : ℕ) (e : ℤ) (n : ℕ) → m * up e ≡ n * down e →
    whole_number (fin negative m e) ≡ some (signed negative n)
unfolding float_value
whole_of_value negative m e n h =
    rw (h, signed_* negative n (down e)) (whole_of_product (signed negative n) (down e) (down_pos e))

-- m × 2^e is the whole number z
pub record Whole (negative : Bool) (m : ℕ) (e : ℤ) (z : ℤ) : Type 0 where
  pub size : m * up e ≡ nat_abs z * down e
  pub sign : z ≡ signed negative (nat_abs z)

-- a fraction that is a whole number
whole_is : (v : Fraction) (z : ℤ) → whole_of (some v) ≡ some z → v ≈ℚ whole z
unfolding whole_of
whole_is v z h = go (true_or_false (eqℚ v (whole (floor v))))
  where
    go : (eqℚ v (whole (floor v)) ≡ true) ⊎ (eqℚ v (whole (floor v)) ≡ false) → v ≈ℚ whole z
    go (inl t) = let e : floor v ≡ z = some_injective (rw t at h) in subst (λ x. v ≈ℚ whole x) e (≈_of_eqℚ {x = v} (rw t tt))
    go (inr t) = absurd (none≢some (rw t at h))

numerator_of : (a z : ℤ) (d : ℕ) → a over pos d ≈ℚ whole z → a ≡ z *ℤ pos d
unfolding whole ◌over◌
numerator_of a z d k = sym (*_one a) ∙ k.cross

pub value_of_whole : (negative : Bool) (m : ℕ) (e z : ℤ) → whole_number (fin negative m e) ≡ some z → Whole negative m e z
unfolding float_value
value_of_whole negative m e z h =
    let v = signed negative (m * up e) over pos (down e) in
    let same : signed negative (m * up e) ≡ z *ℤ pos (down e) = numerator_of _ z (down e) (whole_is v z h) in
    let size : m * up e ≡ nat_abs z * down e =
    sym (size_signed negative (m * up e)) ∙ ap nat_abs same ∙ size_* z (pos (down e)) in
    record {
      size = size;
      sign =
          sym (Z.≡_cancel (Z.pos_<_of_< (down_pos e))
          (sym (signed_* negative (nat_abs z) (down e)) ∙ ap (signed negative) (sym size) ∙ same));
    }
