-- The rounding of a number of hundredths, in units.
--   half_up               n hundredths and half a unit, rounded down
--   sticky_most           a digit is at most 1
--   about                 n hundredths, and half of one more or none, are less than one hundredth off n
--   at_tie                where n ends in 50 they are k − 1 and half a unit or more
--   up_read               half_up as the code has it; hundreds_fits, a hundred times that; before_read, the number before,
--                         and before_size, how large that is
--   at_half, off_half     the code's test: n ends in 50, or all that is less than one hundredth off n is rounded to half_up
-- Assumes nothing.
use mathlib.Core.Path.{◌≡◌, sym, ◌∙◌, ap}
use mathlib.Core.List.{[], ◌∷◌}
use mathlib.Core.Logic.{inl, inr}
use Prim.Native.Nat.{ℕ, ◌+◌, ◌≤◌}
use native.Mathlib.Omega.{arith}
use lib.Dec.{eqb, lit<}
use lib.IntN.{ℤ, pos, negsuc, nat_abs, ◌+ℤ◌, ◌-ℤ◌, ◌*ℤ◌, *ℤ_comm}
use mir.Syntax.{w32}
use mir.Val.{SFits, to_z, of_z}
use mir.Facts.{to_z-of_z}
use Rattle.exact.specs.Fraction.{Fraction, ◌over◌, ◌+ℚ◌, ◌-ℚ◌}
use Rattle.exact.specs.Rounding.{floor_div, round, HalfEven}
use Rattle.exact.specs.Inner.{sticky}
use Rattle.exact.proofs.Ring.{ring, terms}
use Rattle.exact.proofs.Tests.{true_or_false}
use Rattle.exact.proofs.Order as Z
use Rattle.exact.proofs.Order.{signs}
use Rattle.exact.proofs.Field.{field, ratios, ◌∷ℚ◌}
use Rattle.exact.proofs.Fractions as Q
use Rattle.exact.proofs.Fractions.{propers, positivity}
use Rattle.exact.proofs.Floor.{floor_div_quotient}
use Rattle.exact.proofs.Magnitude.{size_+, size_*, size--, sfits_of_size}
use Rattle.exact.proofs.Rounding.{proper_half, round_rounding}
use Rattle.exact.proofs.Mixed.{half_even_strict}
use Rattle.segment.specs.Inner.{About, HalfWay}

abbrev pub half_up : ℤ → ℤ
half_up n = floor_div (n +ℤ pos 50) 100

-- ---- what is less than one hundredth off n

module _ (n : ℤ) where
  abbrev k : ℤ
  k = half_up n

  -- that is less than one half off k: from n − 1 to n + 1 there is no half, and k is between
  off_tie : (n +ℤ pos 50 ≡ pos 100 *ℤ k → ⊥) → (v : Fraction) → About n v → HalfEven v k
  off_tie differ v a =
      let q = floor_div_quotient (n +ℤ pos 50) {d = 100} (lit< tt) in
      let p = a.proper in
      let h = proper_half in
      elim (Z.≤_or_< (n +ℤ pos 50) (k *ℤ pos 100)) [
        | inl e ↦ absurd (differ (Z.≤_antisym e q.low ∙ *ℤ_comm k (pos 100)))
        | inr e ↦
            let low = Z.nonneg_difference (Z.next_of_< e) in
            let high = Z.nonneg_difference (Z.next_of_< q.high) in
            half_even_strict
            (Q.<_by (search propers) (search propers)
            (((n +ℤ pos 1) over pos 100 -ℚ v) +ℚ (((k +ℤ pos 1) *ℤ pos 100 -ℤ (n +ℤ pos 50 +ℤ pos 1)) over pos 100))
            (search positivity) (field (v ∷ℚ n ∷ k ∷ []) (search ratios depth 20 fits 9999) tt)
            (Q.positive_+ (search positivity) (search positivity) (Q.positive_difference a.high) (Q.nonneg_over _ _ high)))
            (Q.<_by (search propers) (search propers)
            ((v -ℚ ((n -ℤ pos 1) over pos 100)) +ℚ ((n +ℤ pos 50 -ℤ (k *ℤ pos 100 +ℤ pos 1)) over pos 100))
            (search positivity) (field (v ∷ℚ n ∷ k ∷ []) (search ratios depth 20 fits 9999) tt)
            (Q.positive_+ (search positivity) (search positivity) (Q.positive_difference a.low) (Q.nonneg_over _ _ low)))
      ]

pub sticky_most : (r : ℕ) → sticky r ≤ 1
sticky_most r = elim (true_or_false (eqb r 0)) [ inl e ↦ rw e (omega arith) | inr e ↦ rw e (omega arith) ]

about_half : (n : ℤ) (s : ℕ) → s ≤ 1 → About n ((pos 2 *ℤ n +ℤ pos s) over pos 200)
about_half n s most =
    let m = Z.pos_≤_of_≤ most in
    record {
      proper = search positivity;
      low = Q.<_by (search positivity) (search positivity) ((pos s +ℤ pos 2) over pos 200) (search positivity)
          (field (n ∷ pos s ∷ []) (search ratios depth 20 fits 9999) tt) (Q.positive_over _ _ (search signs));
      high = Q.<_by (search positivity) (search positivity) (((pos 1 -ℤ pos s) +ℤ pos 1) over pos 200) (search positivity)
          (field (n ∷ pos s ∷ []) (search ratios depth 20 fits 9999) tt) (Q.positive_over _ _ (search signs));
    }

pub about : (n : ℤ) (r : ℕ) → About n ((pos 2 *ℤ n +ℤ pos (sticky r)) over pos 200)
about n r = about_half n (sticky r) (sticky_most r)

-- n hundredths are half a unit below k
pub at_tie : {n k : ℤ} (s : ℕ) → HalfWay n k → (k -ℤ pos 1) *ℤ pos 200 +ℤ pos (100 + s) ≡ pos 2 *ℤ n +ℤ pos s
at_tie {n} {k} s e =
    ring (k ∷ pos s ∷ []) {b = pos 2 *ℤ (pos 100 *ℤ k) -ℤ pos 100 +ℤ pos s} (search terms depth 20 fits 9999) tt
    ∙ ap (λ (z : ℤ). pos 2 *ℤ z -ℤ pos 100 +ℤ pos s) (sym e.half)
    ∙ ring (n ∷ pos s ∷ []) (search terms depth 20 fits 9999) tt

-- ---- as the code has them

floor_size : (z : ℤ) → nat_abs z ≤ 90000050 → nat_abs (floor_div z 100) ≤ 900001
unfolding floor_div
floor_size (pos n) h = omega arith
floor_size (negsuc n) h = omega arith

same_of_bits : {a b : ℤ} → SFits w32 a → SFits w32 b → of_z w32 a ≡ of_z w32 b → a ≡ b
same_of_bits f g e = sym (to_z-of_z f) ∙ ap (λ (x : ℕ). to_z w32 x) e ∙ to_z-of_z g

module _ (n : ℤ) (most : nat_abs n ≤ 90000000) where
  read : to_z w32 (of_z w32 n) ≡ n
  read = to_z-of_z (sfits_of_size w32 n (omega (arith, most)))

  half_size : nat_abs (n +ℤ pos 50) ≤ 90000050
  half_size = omega (arith, size_+ n (pos 50), most)

  half_fits : SFits w32 (n +ℤ pos 50)
  half_fits = sfits_of_size w32 _ (omega (arith, half_size))

  abbrev half : ℤ
  half = to_z w32 (of_z w32 n) +ℤ pos 50

  half_is : half ≡ n +ℤ pos 50
  half_is = rw read

  half_read : to_z w32 (of_z w32 half) ≡ n +ℤ pos 50
  half_read = rw half_is (to_z-of_z half_fits)

  up_size : nat_abs (half_up n) ≤ 900001
  up_size = floor_size (n +ℤ pos 50) half_size

  pub up_read : {k : ℤ} → k ≡ floor_div (to_z w32 (of_z w32 half)) 100 → to_z w32 (of_z w32 k) ≡ half_up n
  up_read e = rw (e, half_read) (to_z-of_z (sfits_of_size w32 (half_up n) (omega (arith, up_size))))

  pub hundreds_fits : SFits w32 (pos 100 *ℤ half_up n)
  hundreds_fits = sfits_of_size w32 _ (omega (arith, size_* (pos 100) (half_up n), up_size))

  -- the code's test is that of the numbers
  pub at_half : of_z w32 half ≡ of_z w32 (pos 100 *ℤ half_up n) → HalfWay n (half_up n)
  at_half e = record { half = same_of_bits half_fits hundreds_fits (rw half_is at e); size = up_size }

  pub off_half : (of_z w32 half ≡ of_z w32 (pos 100 *ℤ half_up n) → ⊥) → (v : Fraction) → About n v → round v ≡ half_up n
  off_half differ v a =
      let other : n +ℤ pos 50 ≡ pos 100 *ℤ half_up n → ⊥ = λ e. differ (rw half_is (ap (λ (z : ℤ). of_z w32 z) e)) in
      round_rounding.unique a.proper (off_tie n other v a)

module _ {n k : ℤ} (e : HalfWay n k) where
  pub before_size : nat_abs (k -ℤ pos 1) ≤ 1000000
  before_size = omega (arith, size-- k (pos 1), e.size)

  pub before_read : to_z w32 (of_z w32 (k -ℤ pos 1)) ≡ k -ℤ pos 1
  before_read = to_z-of_z (sfits_of_size w32 _ (omega (arith, before_size)))
