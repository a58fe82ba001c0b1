-- Results and refusals never meet, and a refusal's number and place can be had from the number that C gets.
-- Assumes nothing.
use mathlib.Core.Path.{◌≡◌, refl}
use mathlib.Core.List.{[], ◌∷◌}
use Prim.Native.Nat.{ℕ, ◌+◌, ◌*◌, ◌/◌, ◌%◌, ◌<◌, ◌≤◌}
use native.Mathlib.Omega.{arith}
use lib.IntN.{ℤ, pos, neg_ℤ, ◌-ℤ◌}
use lib.Signed.{◌≤ℤ◌}
use Rattle.exact.proofs.Ring.{ring, terms}
use Rattle.exact.proofs.Order as Z
use Rattle.exact.proofs.Magnitude.{size_neg}
use Rattle.model.specs.Answer.{Answer, gives, refused}
use Rattle.model.proofs.Answers.{on_lists_gives, factor_is_high}
use Rattle.model.proofs.Numbered.{Numbered, in_check, in_reading, in_sheet, in_lists}
use Rattle.exports.specs.Exports.{word, c_number, c_shape_and_count}
use Rattle.exports.specs.Laws.{Apart, ResultsAndRefusalsApart}
use Rattle.exports.proofs.Numbers.{in_pair, in_open, in_write, in_fill, in_import}

-- what −2^32 is above a refusal
above_by : (size : ℕ) → neg_ℤ (pos word) -ℤ neg_ℤ (pos size) ≡ pos size -ℤ pos word
above_by size = ring (pos word ∷ pos size ∷ []) (search terms depth 20 fits 9999) tt

refusal_is_low : {size : ℕ} → word ≤ size → neg_ℤ (pos size) ≤ℤ neg_ℤ (pos word)
refusal_is_low {size} h = Z.≤_by (pos size -ℤ pos word) (above_by size) (Z.nonneg_difference (Z.pos_≤_of_≤ h))

-- the size of a refusal, taken apart
number_of : (number place : ℕ) → place < word → (word * number + place) / word ≡ number
number_of number place h = omega arith

place_of : (number place : ℕ) → place < word → (word * number + place) % word ≡ place
place_of number place h = omega arith

by_cases : {A : Type 0} (result : A → ℤ) (a : Answer A) → Numbered a →
    ((x : A) → a ≡ gives x → neg_ℤ (pos 200000) ≤ℤ result x) →
    Apart result a
unfolding Apart c_number
by_cases result (gives x) n high = high x refl
by_cases result (refused number place) n high =
    let near : place < word = omega (arith, n.near) in
    let large : word ≤ word * number + place = omega (arith, n.least) in (
      refusal_is_low large,
      rw (size_neg (pos (word * number + place))) (number_of number place near),
      rw (size_neg (pos (word * number + place))) (place_of number place near),
    )

natural_is_high : (n : ℕ) → neg_ℤ (pos 200000) ≤ℤ pos n
natural_is_high n = Z.≤_trans (Z.≤_by (pos 200000) refl (Z.nonneg_pos 200000)) (Z.nonneg_pos n)

pub apart : ResultsAndRefusalsApart
unfolding c_shape_and_count
apart =
    record {
      check = λ areas values slopes code.
          by_cases pos _ (in_lists areas values slopes _ (in_check _ code)) (λ n _. natural_is_high n);
      read = λ areas values slopes code area.
          by_cases (λ factor. factor) _ (in_lists areas values slopes _ (in_reading _ code area))
          (λ factor e. factor_is_high _ code area (on_lists_gives areas values slopes _ e).result);
      pair = λ areas values slopes code form plan entries.
          by_cases (λ _. pos 3) _ (in_pair areas values slopes code form plan entries) (λ _ _. natural_is_high 3);
      sheet = λ areas values slopes code start step entries.
          by_cases pos _ (in_lists areas values slopes _ (in_sheet _ code start step entries))
          (λ n _. natural_is_high n);
      opened = λ bytes areas values slopes.
          by_cases c_shape_and_count _ (in_open bytes areas values slopes) (λ head _. natural_is_high _);
      written = λ areas values slopes code buffer.
          by_cases pos _ (in_write areas values slopes code buffer) (λ n _. natural_is_high n);
      slopes_filled = λ areas values slopes.
          by_cases pos _ (in_fill areas values slopes) (λ n _. natural_is_high n);
      imported = λ bytes code areas values slopes.
          by_cases pos _ (in_import bytes code areas values slopes) (λ n _. natural_is_high n);
    }
