-- The figures of a segment within its limits, in machine numbers.
--   h, gap_read, rise_read               differences, as the code computes them
--   e₀_fits, g_fits, e₁_fits             the slopes over 100 h; left_read, chord_read, right_read, as the code has them
--   a_size, b_size                       how large their distances from the chord are
-- Assumes nothing.
use mathlib.Core.Path.{◌≡◌, sym, ◌∙◌, ap, ap₂}
use Prim.Native.Nat.{ℕ, ◌-◌, ◌*◌, ◌≤◌}
use native.Mathlib.Nat.{mul-le-mul}
use native.Mathlib.Omega.{arith}
use lib.IntN.{ℤ, pos, nat_abs, ◌-ℤ◌, ◌*ℤ◌}
use mir.Syntax.{w32}
use mir.Val.{SFits, to_z, of_z}
use mir.Facts.{to_z-of_z, to_z_pos}
use Rattle.exact.proofs.Order as Z
use Rattle.exact.proofs.Magnitude.{size--, size_*, size_difference, sfits_of_size}
use Rattle.model.specs.Points.{gap_most, value_most, Point, Segment}
use Rattle.model.specs.Inner.{Limits, Neighbours}
use Rattle.point.proofs.Figures.{slope_size, value_read}
use Rattle.model.proofs.Segments.{gap, rise, e₀, e₁, g, a, b}
use Rattle.shape.specs.Inner.{over_most, SlopesOver}
use Rattle.shape.specs.declared.Slopes.{Slopes}

abbrev pub h : Segment → ℕ
h s = s.right.area - s.left.area

over_fits : (z : ℤ) → nat_abs z ≤ 2 * over_most → SFits w32 z
over_fits z k = sfits_of_size w32 z (omega arith)

module _ {s : Segment} (n : Neighbours s) where
  pub gap_is : gap s ≡ pos (h s)
  gap_is = Z.difference_of_≤ (let k = n.ordered in omega arith)

  pub gap_read : to_z w32 (h s) ≡ gap s
  gap_read = to_z_pos w32 (let k = n.near in omega arith) ∙ sym gap_is

  rise_size : nat_abs (rise s) ≤ value_most
  rise_size = size_difference n.right.value n.left.value

  pub rise_fits : SFits w32 (rise s)
  rise_fits = over_fits (rise s) (omega (arith, rise_size))

  pub rise_read : to_z w32 s.right.value -ℤ to_z w32 s.left.value ≡ rise s
  rise_read = ap₂ (λ x y. x -ℤ y) (value_read n.right) (value_read n.left)

  -- the slope of an end, over 100 h
  over_size : {p : Point} → Limits p → nat_abs (gap s *ℤ p.slope) ≤ over_most
  over_size {p} l =
      let k = n.near in
      let m = ap nat_abs gap_is in
      omega (arith, size_* (gap s) p.slope, mul-le-mul {n₁ = nat_abs (gap s)} {n₂ = gap_most} (omega arith) (slope_size l))

  g_size : nat_abs (g s) ≤ over_most
  g_size = omega (arith, rise_size, size_* (pos 100) (rise s))

  pub a_size : nat_abs (a s) ≤ 2 * over_most
  a_size = omega (arith, size-- (e₁ s) (g s), over_size n.right, g_size)

  pub b_size : nat_abs (b s) ≤ 2 * over_most
  b_size = omega (arith, size-- (g s) (e₀ s), over_size n.left, g_size)

  pub e₀_fits : SFits w32 (e₀ s)
  e₀_fits = over_fits (e₀ s) (omega (arith, over_size n.left))

  pub g_fits : SFits w32 (g s)
  g_fits = over_fits (g s) (omega (arith, g_size))

  pub e₁_fits : SFits w32 (e₁ s)
  e₁_fits = over_fits (e₁ s) (omega (arith, over_size n.right))

  -- what `slopes` gives
  module _ {e : Slopes} (k : SlopesOver s e) where
    pub left_read : to_z w32 (of_z w32 e.left) ≡ e.left
    left_read = rw k.left (to_z-of_z e₀_fits)

    pub chord_read : to_z w32 (of_z w32 e.chord) ≡ e.chord
    chord_read = rw k.chord (to_z-of_z g_fits)

    pub right_read : to_z w32 (of_z w32 e.right) ≡ e.right
    right_read = rw k.right (to_z-of_z e₁_fits)
