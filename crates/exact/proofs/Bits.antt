-- Signed numbers in machine words: tests by their bits.
--   lt_bits, eq_bits    a test of two words is the test of the numbers
--   zero_fits           0 fits every word
-- Assumes nothing.
use mathlib.Core.Path.{◌≡◌, sym, ◌∙◌, ap}
use lib.Dec.{T, eqb, eqb→eq, eqb_refl}
use lib.IntN.{ℤ, pos}
use lib.Pow.{pow_pos}
use lib.Signed.{le_z, lt_z, ≤ℤ_refl, le_z_yes}
use mir.Syntax.{Width}
use mir.Val.{SFits, hbits, to_z, of_z}
use mir.Facts.{to_z-of_z, and_yes, yes_and}
use Rattle.exact.specs.Inner.{eqZ}
use Rattle.exact.proofs.Tests.{same_test}
use Rattle.exact.proofs.Order as Z

pub zero_fits : (w : Width) → SFits w (pos 0)
zero_fits w = record { sfits = pow_pos (hbits w) }

eq_z_of_≡ : {a b : ℤ} → a ≡ b → T (eqZ a b)
eq_z_of_≡ {a} {b} e = rw e (yes_and (le_z b b) (le_z b b) (≤ℤ_refl b).le (≤ℤ_refl b).le)

≡_of_eq_z : {a b : ℤ} → T (eqZ a b) → a ≡ b
≡_of_eq_z {a} {b} t =
    let (h, k) = and_yes (le_z a b) (le_z b a) t in
    Z.≤_antisym (le_z_yes h) (le_z_yes k)

module _ {w : Width} {a b : ℤ} (fa : SFits w a) (fb : SFits w b) where
  pub lt_bits : lt_z (to_z w (of_z w a)) (to_z w (of_z w b)) ≡ lt_z a b
  lt_bits = rw (to_z-of_z fa, to_z-of_z fb)

  pub eq_bits : eqb (of_z w a) (of_z w b) ≡ eqZ a b
  eq_bits = same_test (eqb (of_z w a) (of_z w b)) (eqZ a b)
      (λ t. eq_z_of_≡ (sym (to_z-of_z fa) ∙ ap (to_z w) (eqb→eq (of_z w a) (of_z w b) t) ∙ to_z-of_z fb))
      (λ t. rw (≡_of_eq_z {a = a} {b = b} t) (eqb_refl (of_z w b)))
