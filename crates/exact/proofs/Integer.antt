-- The ring laws of ℤ that `lib.IntN` lacks.
--   +_left_comm        a + (b + c) = b + (a + c)
--   +_exchange         (a + b) + (c + d) = (a + c) + (b + d)
--   +-*, *-+           a sum times k, and k times a sum
--   *_one, one_*       a 1 = a, 1 a = a
--   neg_*              (−a) b = −(a b)
--   *_assoc            (a b) c = a (b c)
--   ≡_of_difference    a − b = 0 → a = b
-- Assumes nothing.
use mathlib.Core.Path.{◌≡◌, sym, ◌∙◌, ◌≡⟨◌⟩◌, ◌∎}
use Prim.Native.Nat.{zero}
use lib.IntN.{ℤ, pos, neg_ℤ, one, ◌+ℤ◌, ◌-ℤ◌, ◌*ℤ◌, ℤ_ind, +ℤ_idl, +ℤ_idr, +ℤ_assoc, +ℤ_comm, +ℤ_invl, +ℤ_invr}
use lib.IntN.{+ℤ_one, -ℤ_one, suc_ℤ-+ℤ, pred_ℤ-+ℤ, *ℤ_comm, *ℤ-one, zero-*ℤ, suc_ℤ-*ℤ, pred_ℤ-*ℤ}

pub +_left_comm : (a b c : ℤ) → a +ℤ (b +ℤ c) ≡ b +ℤ (a +ℤ c)
+_left_comm a b c = rw (← +ℤ_assoc a b c, +ℤ_comm a b) (+ℤ_assoc b a c)

-- `simp sorted` sorts the summands of both sides
ruleset sorted = (+ℤ_assoc, +ℤ_comm, +_left_comm)

pub +_exchange : (a b c d : ℤ) → (a +ℤ b) +ℤ (c +ℤ d) ≡ (a +ℤ c) +ℤ (b +ℤ d)
+_exchange a b c d = simp sorted

by_steps : (P : ℤ → Type 0) →
    P (pos zero) →
    ((x : ℤ) → P x → P (x +ℤ pos 1)) →
    ((x : ℤ) → P x → P (x -ℤ pos 1)) →
    (a : ℤ) → P a
by_steps P z up down a = ℤ_ind P z (λ n h. up (pos n) h) (λ n h. down (neg_ℤ (pos n)) h) a

pub +-* : (a b k : ℤ) → (a +ℤ b) *ℤ k ≡ a *ℤ k +ℤ b *ℤ k
+-* a b k =
    by_steps (λ x. (x +ℤ b) *ℤ k ≡ x *ℤ k +ℤ b *ℤ k)
    (simp (+ℤ_idl, zero-*ℤ))
    (λ x h. simp (+ℤ_one, suc_ℤ-+ℤ, suc_ℤ-*ℤ, h) (simp sorted))
    (λ x h. simp (-ℤ_one, pred_ℤ-+ℤ, pred_ℤ-*ℤ, h) (simp sorted))
    a

pub *-+ : (k a b : ℤ) → k *ℤ (a +ℤ b) ≡ k *ℤ a +ℤ k *ℤ b
*-+ k a b = rw (*ℤ_comm k (a +ℤ b), *ℤ_comm k a, *ℤ_comm k b) (+-* a b k)

pub *_one : (a : ℤ) → a *ℤ pos 1 ≡ a
unfolding one
*_one a = *ℤ-one a

pub one_* : (a : ℤ) → pos 1 *ℤ a ≡ a
one_* a = *ℤ_comm (pos 1) a ∙ *_one a

-- what sums to 0 with a is −a
negation : (a b : ℤ) → a +ℤ b ≡ pos zero → b ≡ neg_ℤ a
negation a b h =
    b ≡⟨ sym (+ℤ_idl b) ⟩
    pos zero +ℤ b ≡⟨ rw (← +ℤ_invl a) (+ℤ_assoc (neg_ℤ a) a b) ⟩
    neg_ℤ a +ℤ (a +ℤ b) ≡⟨ rw h (+ℤ_idr (neg_ℤ a)) ⟩
    neg_ℤ a ∎

pub neg_* : (a b : ℤ) → neg_ℤ a *ℤ b ≡ neg_ℤ (a *ℤ b)
neg_* a b = negation (a *ℤ b) (neg_ℤ a *ℤ b) (rw (← +-* a (neg_ℤ a) b, +ℤ_invr a) (zero-*ℤ b))

pub *_assoc : (a b c : ℤ) → (a *ℤ b) *ℤ c ≡ a *ℤ (b *ℤ c)
*_assoc a b c =
    by_steps (λ x. (x *ℤ b) *ℤ c ≡ x *ℤ (b *ℤ c))
    (simp zero-*ℤ)
    (λ x h. simp (+ℤ_one, suc_ℤ-*ℤ, +-*, h))
    (λ x h. simp (-ℤ_one, pred_ℤ-*ℤ, +-*, neg_*, h))
    a

pub ≡_of_difference : (a b : ℤ) → a -ℤ b ≡ pos zero → a ≡ b
≡_of_difference a b h =
    a ≡⟨ sym (+ℤ_idr a) ⟩
    a +ℤ pos zero ≡⟨ rw (← +ℤ_invl b) (sym (+ℤ_assoc a (neg_ℤ b) b)) ⟩
    a -ℤ b +ℤ b ≡⟨ rw h (+ℤ_idl b) ⟩
    b ∎
