-- The exact value of a binary64 number, and the whole number that it is.
-- Assumes nothing.
use mathlib.Core.Path.{◌≡◌, refl, sym, ◌∙◌, ap, subst}
use mathlib.Core.Bool.{Bool}
use mathlib.Core.Option.{some}
use Prim.Native.Nat.{ℕ, ◌*◌}
use lib.IntN.{ℤ, pos, nat_abs, ◌*ℤ◌}
use lib.Ieee.{Float, nan, inf, fin, up, down}
use lib.Ieee.Fits.{down_pos}
use Rattle.exact.specs.Fraction.{Fraction, Proper, ◌over◌, whole, ◌≈ℚ◌, leℚ, eqℚ}
use Rattle.exact.specs.Rounding.{floor_div, floor}
use Rattle.exact.proofs.Integer.{*_one}
use Rattle.exact.proofs.Tests.{T_true}
use Rattle.exact.proofs.Order as Z
use Rattle.exact.proofs.Fractions as Q
use Rattle.exact.proofs.Floor.{floor_greatest}
use Rattle.binary64.specs.Value.{signed, float_value, whole_of, whole_number}
use Rattle.binary64.specs.Laws.{ValueIs, Exactly, ValueIsTheKits, WholeNumbers, ValueExamples}
use Rattle.binary64.proofs.Values.{none≢some, signed_*, value_of_whole}

-- ---- the value of a finite number

module _ (negative : Bool) (m : ℕ) (e : ℤ) where
  abbrev own : Fraction
  own = signed negative (m * up e) over pos (down e)

  finite : (v : Fraction) → own ≈ℚ v → ValueIs (fin negative m e) v
  unfolding float_value
  finite v k =
      record { value = own; has = refl; proper = Q.proper_over _ _ (Z.pos_<_of_< (down_pos e)); same = k }

  same_as : (a c : ℕ) → m * up e * c ≡ a * down e → own ≈ℚ signed negative a over pos c
  unfolding ◌over◌
  same_as a c h =
      record { cross = sym (signed_* negative (m * up e) c) ∙ ap (signed negative) h ∙ signed_* negative a (down e) }

  same_as_whole : (z : ℤ) → whole_number (fin negative m e) ≡ some z → own ≈ℚ whole z
  unfolding ◌over◌ whole
  same_as_whole z h =
      let k = value_of_whole negative m e z h in
      record {
        cross =
            *_one (signed negative (m * up e)) ∙ ap (signed negative) k.size ∙ signed_* negative (nat_abs z) (down e)
            ∙ ap (λ y. y *ℤ pos (down e)) (sym k.sign);
      }

pub value_is_the_kits : (x : Float) → ValueIsTheKits x
value_is_the_kits nan =
    record { of_kit = λ s a c h k. absurd k; of_ours = λ v k. absurd (none≢some {x = v} (unfold float_value in k)) }
value_is_the_kits (inf t) =
    record { of_kit = λ s a c h k. absurd k; of_ours = λ v k. absurd (none≢some {x = v} (unfold float_value in k)) }
value_is_the_kits (fin t m e) =
    record {
      of_kit = λ s a c h k.
          subst (λ (b : Bool). ValueIs (fin t m e) (signed b a over pos c)) k.0 (finite t m e _ (same_as t m e a c k.1));
      of_ours = λ v k. (t, m * up e, down e, down_pos e, (refl, refl), unfold float_value in (cc));
    }

-- ---- whole numbers

-- the floor of what is a whole number
floor_at_whole : (v : Fraction) (z : ℤ) → Proper v → v ≈ℚ whole z → floor v ≡ z
floor_at_whole v z p k =
    let g = floor_greatest v p in
    Z.≤_antisym
    (Q.≤_of_whole_≤ (floor v) z (Q.≤_trans (Q.proper_whole (floor v)) p (Q.proper_whole z) g.not_above (Q.≤_of_≈ k)))
    (g.greatest z (Q.≤_of_≈ (Q.≈_sym k)))

whole_of_exact : (v : Fraction) (z : ℤ) → Proper v → v ≈ℚ whole z → whole_of (some v) ≡ some z
unfolding whole_of
whole_of_exact v z p k = rw (floor_at_whole v z p k, T_true (eqℚ v (whole z)) (Q.eqℚ_of_≈ k)) refl

exact : (x : Float) (z : ℤ) → whole_number x ≡ some z → Exactly x z
exact nan z h = absurd (none≢some {x = z} (unfold float_value whole_of in h))
exact (inf t) z h = absurd (none≢some {x = z} (unfold float_value whole_of in h))
exact (fin t m e) z h = finite t m e (whole z) (same_as_whole t m e z h)

pub whole_numbers : (x : Float) (z : ℤ) → WholeNumbers x z
whole_numbers x z =
    record {
      exact = exact x z;
      taken = λ k. ap whole_of k.has ∙ whole_of_exact k.value z k.proper k.same;
    }

pub value_examples : ValueExamples
unfolding ◌over◌ whole leℚ eqℚ floor_div floor float_value whole_of
value_examples = (refl, refl, refl, refl, refl, refl, refl)
