-- What is proved of the exact value of a binary64 number, and of the whole number that it is. Proofs: proofs/Laws.antt.
-- Assumes nothing.
use Rattle.std.specs.Prelude.{ℕ, ◌^◌, ◌<◌, ◌≡◌, Bool, true, false, ℤ, pos, negsuc, neg_ℤ, Float}
use Rattle.std.proofs.Math.Option.{none, some}
use Rattle.std.specs.Float.{nan, inf, fin}
use Rattle.std.specs.Float.Ieee.Exact.{HasValue}
use Rattle.exact.specs.Fraction.{Fraction, Proper, ◌over◌, whole, ◌≈ℚ◌}
use Rattle.binary64.specs.Value.{signed, float_value, whole_number}

-- the exact value of x is the number v; a fraction that is not proper would be the same as any
pub record ValueIs (x : Float) (v : Fraction) : Type 0 where
  pub value : Fraction
  pub has : float_value x ≡ some value
  pub proper : Proper value
  pub same : value ≈ℚ v

-- it is the whole number z
abbrev pub Exactly : Float → ℤ → Type 0
Exactly x z = ValueIs x (whole z)

-- the kit says of a finite number, by its sign and size, that it is a / c or −(a / c): that is its exact value here too, and no
-- other number has one
pub record ValueIsTheKits (x : Float) : Type 0 where
  pub of_kit : (negative : Bool) (a c : ℕ) → 0 < c → HasValue x negative a c → ValueIs x (signed negative a over pos c)
  pub of_ours : (v : Fraction) → float_value x ≡ some v →
      (negative : Bool) × (a : ℕ) × (c : ℕ) × (0 < c) × HasValue x negative a c × (v ≡ signed negative a over pos c)

-- the whole number that is taken is the exact value, and every whole number is taken
pub record WholeNumbers (x : Float) (z : ℤ) : Type 0 where
  pub exact : whole_number x ≡ some z → Exactly x z
  pub taken : Exactly x z → whole_number x ≡ some z

-- by computation
abbrev pub ValueExamples : Type 0
ValueExamples =
    -- not-a-numbers and infinities
    (whole_number nan ≡ none) × (whole_number (inf false) ≡ none) × (whole_number (inf true) ≡ none)
    -- minus zero is zero
    × (whole_number (fin true 0 (pos 0)) ≡ some (pos 0))
    -- 2^1023, 3 × 2^−1 and −(3 × 2^1)
    × (whole_number (fin false 1 (pos 1023)) ≡ some (pos (2 ^ 1023))) × (whole_number (fin false 3 (negsuc 0)) ≡ none)
    × (whole_number (fin true 3 (pos 1)) ≡ some (neg_ℤ (pos 6)))
