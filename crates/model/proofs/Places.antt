-- A row that is tried at each of some places, one after the other.
--   each_first     it refuses at the first place where its condition holds, or not at all
--   each_fails     where it refuses nothing, the condition holds at no place; each_passes, and back
-- Assumes nothing.
use mathlib.Core.Path.{◌≡◌, refl}
use mathlib.Core.Bool.{Bool, true, false}
use mathlib.Core.Logic.{inl, inr}
use Prim.Native.Nat.{ℕ, zero, suc, ◌+◌, ◌≤◌, ◌<◌, zero-le}
use native.Mathlib.Nat.{zero-add}
use native.Mathlib.Omega.{arith}
use borrow.Author.Tests.{lt-ltb, le-ltb}
use Rattle.exact.proofs.Tests.{compare}
use Rattle.model.specs.Answer.{gives, row, ◌then◌, row_at_each}
use Rattle.model.specs.Inner.{first_answer}
use Rattle.model.proofs.Rows.{row_passed, then_rest}

module _ (condition : ℕ → Bool) (number : ℕ) where
  module _ (r n : ℕ)
      (before : (j : ℕ) → j < r → condition j ≡ false)
      (first : r < n → condition r ≡ true) where
    first_from : (m i : ℕ) → i + m ≡ n → i ≤ r → first_answer number r n ≡ row_at_each condition number i m
    unfolding row_at_each row ◌then◌
    first_from zero i e h = rw (le-ltb r n (omega arith))
    first_from (suc m) i e h =
        elim (compare (suc i) r) [
          | inl (k, t) ↦ rw (before i k) (first_from m (suc i) (omega arith) k)
          | inr (k, t) ↦ let same : i ≡ r = omega arith in rw (same, first (omega arith), lt-ltb r n (omega arith))
        ]

    pub each_first : first_answer number r n ≡ row_at_each condition number 0 n
    each_first = first_from n 0 (zero-add n) zero-le

  fails_from : (j n i : ℕ) → row_at_each condition number j n ≡ gives tt → j ≤ i → i < j + n → condition i ≡ false
  unfolding row_at_each
  fails_from j zero i e low high = absurd (omega arith)
  fails_from j (suc n) i e low high =
      elim (compare (suc j) i) [
        | inl (k, t) ↦ fails_from (suc j) n i (then_rest (row (condition j) number j) _ e) k (omega arith)
        | inr (k, t) ↦ let same : i ≡ j = omega arith in rw same (row_passed (condition j) number j _ e)
      ]

  pub each_fails : (n i : ℕ) → row_at_each condition number 0 n ≡ gives tt → i < n → condition i ≡ false
  each_fails n i e h = fails_from 0 n i e zero-le (omega arith)

  passes_from : (j n : ℕ) → ((i : ℕ) → i < j + n → condition i ≡ false) → row_at_each condition number j n ≡ gives tt
  unfolding row_at_each row ◌then◌
  passes_from j zero h = refl
  passes_from j (suc n) h = rw (h j (omega arith)) (passes_from (suc j) n (λ i k. h i (omega arith)))

  pub each_passes : (n : ℕ) → ((i : ℕ) → i < n → condition i ≡ false) → row_at_each condition number 0 n ≡ gives tt
  each_passes n h = passes_from 0 n (λ i k. h i (rw zero-add at k))
