-- Where something is left it is less than one half off; where nothing is, it is k − 1 and what b / 2 is short of b.
use mathlib.Core.List.{[], ◌∷◌}
use native.Mathlib.Nat.{mod-lt, div-add-mod'}
use Rattle.std.proofs.Common.{◌≡◌, ℕ, ◌+◌, ◌-◌, ◌*◌, ◌/◌, ◌%◌, ◌≤◌, ◌<◌, ℤ, pos, ◌+ℤ◌, ◌-ℤ◌, ◌*ℤ◌, sym, ◌∙◌, ap}
use Rattle.std.proofs.Common.{nat_abs, arith, rules, w32, SFits, to_z, to_z-of_z}
use mir.Facts.{to_z_pos}
use Rattle.exact.specs.Fraction.{Proper, ◌over◌, whole, ◌+ℚ◌, ◌-ℚ◌}
use Rattle.exact.specs.Rounding.{round, HalfEven}
use Rattle.exact.proofs.Ring.{ring, terms}
use Rattle.exact.proofs.Order as Z
use Rattle.exact.proofs.Fractions as Q
use Rattle.exact.proofs.Magnitude.{size--, sfits_of_size}
use Rattle.exact.proofs.Rounding.{round_rounding}
use Rattle.exact.proofs.Mixed.{half_even_strict}
use Rattle.segment.specs.Inner.{left_part, whole_part, RisingInput}
use Rattle.segment.proofs.Sizes.{whole_size, share_size, share_most}
use Rattle.segment.proofs.rising.Goals as goal

-- n / b and one half, rounded down to q
module _ (l n b q r : ℕ) (split : n + b / 2 ≡ q * b + r) where
  off_tie : 0 < r → r < b → HalfEven ((pos l *ℤ pos b +ℤ pos n) over pos b) (pos (l + q))
  unfolding ◌over◌ whole ◌+ℚ◌ ◌-ℚ◌
  off_tie some rest =
      let low : 2 * n < 2 * (q * b) + b = omega arith in
      let high : 2 * (q * b) < 2 * n + b = omega arith in
      half_even_strict
      (record {
        cross = Z.<_by (pos (2 * (q * b) + b) -ℤ pos (2 * n))
            (ring (pos l ∷ pos n ∷ pos b ∷ pos q ∷ []) (search terms depth 20 fits 9999) tt)
            (Z.positive_difference (Z.pos_<_of_< low));
      })
      (record {
        cross = Z.<_by (pos (2 * n + b) -ℤ pos (2 * (q * b)))
            (ring (pos l ∷ pos n ∷ pos b ∷ pos q ∷ []) (search terms depth 20 fits 9999) tt)
            (Z.positive_difference (Z.pos_<_of_< high));
      })

  at_tie : r ≡ 0 → (pos (l + q) -ℤ pos 1) *ℤ pos b +ℤ pos (b - b / 2) ≡ pos l *ℤ pos b +ℤ pos n
  at_tie none =
      let whole_part : q * b ≡ n + b / 2 = omega arith in
      let most : b / 2 ≤ b = omega arith in
      rw (← Z.difference_of_≤ most)
      (ring (pos l ∷ pos q ∷ pos b ∷ pos (b / 2) ∷ []) {b = pos l *ℤ pos b +ℤ (pos (q * b) -ℤ pos (b / 2))}
      (search terms depth 20 fits 9999) tt
      ∙ ap (λ (m : ℕ). pos l *ℤ pos b +ℤ (pos m -ℤ pos (b / 2))) whole_part
      ∙ ring (pos l ∷ pos n ∷ pos b ∷ pos (b / 2) ∷ []) (search terms depth 20 fits 9999) tt)

module _ {t u left rise d0 d1 : ℕ} (x : RisingInput t u left rise d0 d1) where
  -- A F, B, and the first with half of the second
  abbrev n : ℕ
  n = left_part t u rise d0 d1 * rise

  abbrev b : ℕ
  b = whole_part t u rise d0 d1

  abbrev m : ℕ
  m = n + b / 2

  abbrev k : ℕ
  k = left + m / b

  k_size : k ≤ 400000
  k_size = omega (arith, share_most x, x.value)

  k_read : to_z w32 k ≡ pos k
  k_read = to_z_pos w32 (omega (arith, k_size))

  before_size : nat_abs (pos k -ℤ pos 1) ≤ 1000000
  before_size = omega (arith, size-- (pos k) (pos 1), k_size)

  before_fits : SFits w32 (pos k -ℤ pos 1)
  before_fits = sfits_of_size w32 _ (omega (arith, before_size))

  proper : Proper ((pos left *ℤ pos b +ℤ pos n) over pos b)
  proper = Q.proper_over _ _ (Z.pos_<_of_< x.above_0)

  split : m ≡ m / b * b + m % b
  split = sym (div-add-mod' m b)

  reads_off : 0 < m % b → pos k ≡ round ((pos left *ℤ pos b +ℤ pos n) over pos b)
  reads_off some = sym (round_rounding.unique proper (off_tie left n b (m / b) (m % b) split some (mod-lt m x.above_0)))

  reads_tie : m % b ≡ 0 → (pos k -ℤ pos 1) *ℤ pos b +ℤ pos (b - b / 2) ≡ pos left *ℤ pos b +ℤ pos n
  reads_tie none = at_tie left n b (m / b) (m % b) split none

pub overflow_add-b : goal.overflow_add-b
overflow_add-b c = rw (c.part-a.ensures, c.part.ensures) (omega (arith, whole_size c.requires))

pub overflow_mul-n : goal.overflow_mul-n
overflow_mul-n c = rw c.part-a.ensures (omega (arith, share_size c.requires))

pub overflow_add-n : goal.overflow_add-n
overflow_add-n c = rw (c.part-a.ensures, c.part.ensures) (omega (arith, share_size c.requires))

pub returns-then-rest_left : goal.returns-then-rest_left
returns-then-rest_left c =
    let some = rw (c.part-a.ensures, c.part.ensures) at c.if-rest_left.true in
    rw (c.part-a.ensures, c.part.ensures, k_read c.requires) (reads_off c.requires (omega arith))

pub overflow_sub-k : goal.overflow_sub-k
overflow_sub-k c = rw (c.part-a.ensures, c.part.ensures, k_read c.requires) (before_fits c.requires)

pub nearest-requires : goal.nearest-requires
nearest-requires c =
    rw (c.part-a.ensures, c.part.ensures, k_read c.requires, to_z-of_z (before_fits c.requires))
    (record {
      size = before_size c.requires;
      above_0 = c.requires.above_0;
      part = omega arith;
      divisor = omega (arith, whole_size c.requires);
    })

pub returns : goal.returns
returns c =
    let none = rw (c.part-a.ensures, c.part.ensures) at c.if-rest_left.false in
    let e = rw (c.part-a.ensures, c.part.ensures, k_read c.requires, to_z-of_z (before_fits c.requires)) at c.nearest.ensures in
    to_z-of_z {w = w32} (search rules) ∙ e ∙ ap (λ (z : ℤ). round (z over pos (b c.requires))) (reads_tie c.requires none)
