-- `exact::nearest` meets its contract.
-- Assumes nothing.
use mathlib.Core.Path.{◌≡◌, sym, ◌∙◌, ap, subst}
use mathlib.Core.List.{[], ◌∷◌}
use mathlib.Core.Logic.{inl, inr}
use Prim.Native.Nat.{ℕ, ◌%◌}
use native.Mathlib.Omega.{arith}
use lib.Dec.{T, eqb}
use lib.IntN.{ℤ, pos, nat_abs, ◌+ℤ◌, ◌-ℤ◌, ◌*ℤ◌, +ℤ_comm}
use mir.Syntax.{w32}
use mir.Val.{SFits, to_z, of_z}
use mir.Facts.{to_z-of_z}
use Rattle.exact.specs.Fraction.{Proper, ◌over◌}
use Rattle.exact.specs.Rounding.{even}
use Rattle.exact.proofs.Ring.{ring, terms}
use Rattle.exact.proofs.Order as Z
use Rattle.exact.proofs.Fractions as Q
use Rattle.exact.proofs.Magnitude.{size_+, sfits_of_size, nonneg_above}
use Rattle.exact.proofs.Signed.{cast-of-natural}
use Rattle.exact.proofs.Rounding.{Even, even_of_test, test_of_even, even--, even_or_next, round_rounding}
use Rattle.exact.proofs.Mixed.{stays, goes_up}
use Rattle.exact.proofs.nearest.Goals as goal
use Rattle.exact.proofs.nearest.Goals.{Start}

million_even : Even (pos 1000000)
unfolding even
million_even = even_of_test (pos 1000000) tt

taken_off : (k : ℤ) → k +ℤ pos 1000000 -ℤ pos 1000000 ≡ k
taken_off k = ring (k ∷ []) (search terms depth 20 fits 9999) tt

taken_off_next : (k : ℤ) → k +ℤ pos 1000000 +ℤ pos 1 -ℤ pos 1000000 ≡ k +ℤ pos 1
taken_off_next k = ring (k ∷ []) (search terms depth 20 fits 9999) tt

proper : (c : Start) → Proper ((c.args.k *ℤ pos c.args.d +ℤ pos c.args.r) over pos c.args.d)
proper c = Q.proper_over _ _ (Z.pos_<_of_< c.requires.above_0)

module _ (c : Start) where
  abbrev k : ℤ
  k = c.args.k

  -- k and a million
  abbrev raised : ℤ
  raised = k +ℤ pos 1000000

  k_read : to_z w32 (of_z w32 k) ≡ k
  k_read = to_z-of_z c.ranges.k

  raised_fits : SFits w32 raised
  raised_fits = sfits_of_size w32 raised (omega (arith, size_+ k (pos 1000000), c.requires.size))

  next_fits : SFits w32 (k +ℤ pos 1)
  next_fits = sfits_of_size w32 (k +ℤ pos 1) (omega (arith, size_+ k (pos 1), c.requires.size))

  natural : raised ≡ pos (nat_abs raised)
  natural = Z.natural_of_nonneg (rw (+ℤ_comm k (pos 1000000)) (nonneg_above 1000000 k c.requires.size))

  -- the remainder as the code has it
  abbrev odd : ℕ
  odd = nat_abs (to_z w32 (of_z w32 (to_z w32 (of_z w32 k) +ℤ pos 1000000))) % 2

  odd_read : odd ≡ nat_abs raised % 2
  odd_read = rw (k_read, to_z-of_z raised_fits)

  even_of_0 : odd ≡ 0 → T (even k)
  unfolding even
  even_of_0 e =
      test_of_even {z = k} (rw (taken_off k) at (even-- (even_of_test raised (rw (sym odd_read ∙ e) tt)) million_even))

  next_even_of_1 : odd ≡ 1 → T (even (k +ℤ pos 1))
  unfolding even
  next_even_of_1 e =
      elim (even_or_next raised) [
        | inl w ↦ absurd (subst T (ap (λ (n : ℕ). eqb n 0) (sym odd_read ∙ e)) (test_of_even w))
        | inr w ↦ test_of_even {z = k +ℤ pos 1} (rw (taken_off_next k) at (even-- w million_even))
      ]

pub returns-then-d-r : goal.returns-then-d-r
returns-then-d-r c =
    let s = c.before in
    let test = c.if-d-r.true in
    rw (k_read s, to_z-of_z (next_fits s))
    (sym (round_rounding.unique (proper s)
    (goes_up (k s) s.requires.above_0 s.requires.part (omega arith) (λ e. next_even_of_1 s (omega arith)))))

pub returns : goal.returns
returns c =
    let s = c.before in
    let test = c.if-d-r.false in
    rw (k_read s)
    (sym (round_rounding.unique (proper s)
    (stays (k s) s.requires.above_0 s.requires.part (omega arith) (λ e. even_of_0 s (omega arith)))))

pub overflow_add-odd : goal.overflow_add-odd
overflow_add-odd c =
    rw (k_read c) (raised_fits c)

pub overflow_cast-odd : goal.overflow_cast-odd
overflow_cast-odd c =
    rw (k_read c, to_z-of_z (raised_fits c)) (cast-of-natural tt (raised_fits c) (natural c))

pub overflow_add-result : goal.overflow_add-result
overflow_add-result c =
    rw (k_read c.before) (next_fits c.before)
