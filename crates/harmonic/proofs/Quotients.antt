-- Figures as quotients of natural numbers.
--   is_flat, not_flat           a chord is flat where it does not rise
--   chord_figure                the figure of a chord
--   inner_flat, inner_figure    between two chords, of which one is flat, or none is
--   end_flat, far_flat, end_figure    at an end: its chord is flat, or only the other one, or none
-- Assumes nothing.
use mathlib.Core.Path.{◌≡◌, refl, ◌∙◌}
use mathlib.Core.Bool.{true, false, ◌&&◌, or-true}
use mathlib.Core.Logic.{◌⊎◌, inl, inr}
use Prim.Native.Nat.{ℕ, zero, suc, ◌+◌, ◌*◌, ◌/◌, ◌<◌}
use native.Mathlib.Nat.{mul-one, one-mul, mul-zero, zero-mul, mul-pos, pos_of_ne-zero}
use native.Mathlib.Omega.{arith}
use borrow.Author.Tests.{eq-eqb, ne_eqb, lt-leb}
use lib.Dec.{eqb, leb}
use lib.IntN.{pos}
use Rattle.exact.specs.Fraction.{◌over◌, whole, ◌*ℚ◌, ◌/ℚ◌, leℚ, eqℚ}
use Rattle.exact.specs.Rounding.{floor_div, floor}
use Rattle.model.specs.Shape.{0ℚ}
use Rattle.harmonic.specs.Rule.{inner_slope, end_slope, hundredths}

eqb_0 : (F : ℕ) → (leb F 0 && leb 0 F) ≡ eqb F 0
eqb_0 zero = refl
eqb_0 (suc F) = rw (ne_eqb (suc F) 0 (λ (e : suc F ≡ 0). omega arith), lt-leb (suc F) 0 (omega arith))

flat_test : (F h : ℕ) → eqℚ (pos F over pos h) 0ℚ ≡ eqb F 0
unfolding ◌over◌ whole leℚ eqℚ
flat_test F h = rw (mul-one F, zero-mul h) (eqb_0 F)

pub is_flat : (F h : ℕ) → F ≡ 0 → eqℚ (pos F over pos h) 0ℚ ≡ true
is_flat F h e = flat_test F h ∙ eq-eqb F 0 e

pub not_flat : (F h : ℕ) → 0 < F → eqℚ (pos F over pos h) 0ℚ ≡ false
not_flat F h some = flat_test F h ∙ ne_eqb F 0 (λ (e : F ≡ 0). omega arith)

pub chord_figure : (F h : ℕ) → hundredths (pos F over pos h) ≡ pos (F * 100 / h)
unfolding hundredths floor floor_div ◌over◌ whole ◌*ℚ◌
chord_figure F h = rw (mul-one h)

one_is_0 : (a b : ℕ) → a * b ≡ 0 → (a ≡ 0) ⊎ (b ≡ 0)
one_is_0 zero b e = inl refl
one_is_0 (suc a) zero e = inr refl
one_is_0 (suc a) (suc b) e =
    let some : 0 < suc a * suc b = mul-pos (omega arith) (omega arith) in
    absurd (omega arith)

module _ (F₀ h₀ F₁ h₁ : ℕ) where
  pub inner_flat : F₀ * F₁ ≡ 0 →
      hundredths (inner_slope (pos F₀ over pos h₀) (pos F₁ over pos h₁) (pos (F₀ + F₁) over pos (h₀ + h₁))) ≡ pos 0
  unfolding hundredths inner_slope floor floor_div whole ◌*ℚ◌
  inner_flat e =
      elim (one_is_0 F₀ F₁ e) [
        | inl z ↦ rw (is_flat F₀ h₀ z)
        | inr z ↦ rw (is_flat F₁ h₁ z, or-true (eqℚ (pos F₀ over pos h₀) 0ℚ))
      ]

  pub inner_figure : (F₀ * F₁ ≡ 0 → ⊥) →
      hundredths (inner_slope (pos F₀ over pos h₀) (pos F₁ over pos h₁) (pos (F₀ + F₁) over pos (h₀ + h₁)))
      ≡ pos (F₀ * F₁ * (h₀ + h₁) * 100 / (h₀ * h₁ * (F₀ + F₁)))
  unfolding hundredths inner_slope floor floor_div ◌over◌ whole ◌*ℚ◌ ◌/ℚ◌
  inner_figure n =
      let some₀ : 0 < F₀ = pos_of_ne-zero (λ z. n (rw z (zero-mul F₁))) in
      let some₁ : 0 < F₁ = pos_of_ne-zero (λ z. n (rw z (mul-zero F₀))) in
      rw (not_flat F₀ h₀ some₀, not_flat F₁ h₁ some₁, mul-one (h₀ * h₁ * (F₀ + F₁)))

  pub end_flat : F₀ ≡ 0 →
      hundredths (end_slope (pos F₀ over pos h₀) (pos F₁ over pos h₁) (pos (F₀ + F₁) over pos (h₀ + h₁))) ≡ pos 0
  unfolding hundredths end_slope floor floor_div whole ◌*ℚ◌
  end_flat e = rw (is_flat F₀ h₀ e)

  pub far_flat : (F₀ ≡ 0 → ⊥) → F₁ ≡ 0 →
      hundredths (end_slope (pos F₀ over pos h₀) (pos F₁ over pos h₁) (pos (F₀ + F₁) over pos (h₀ + h₁)))
      ≡ pos (2 * F₀ * 100 / h₀)
  unfolding hundredths end_slope floor floor_div ◌over◌ whole ◌*ℚ◌
  far_flat n e = rw (not_flat F₀ h₀ (pos_of_ne-zero n), is_flat F₁ h₁ e, one-mul h₀, mul-one h₀)

  pub end_figure : (F₀ ≡ 0 → ⊥) → (F₁ ≡ 0 → ⊥) →
      hundredths (end_slope (pos F₀ over pos h₀) (pos F₁ over pos h₁) (pos (F₀ + F₁) over pos (h₀ + h₁)))
      ≡ pos (F₀ * (F₀ + F₁) * h₁ * 100 / (h₀ * (h₀ + h₁) * F₁))
  unfolding hundredths end_slope floor floor_div ◌over◌ whole ◌*ℚ◌ ◌/ℚ◌
  end_figure m n =
      rw (not_flat F₀ h₀ (pos_of_ne-zero m), not_flat F₁ h₁ (pos_of_ne-zero n), mul-one (h₀ * (h₀ + h₁) * F₁))
