-- A segment as its shape reads it, and the one that was filed.
--   plain_shape      the shape by which it is read
--   segment_twice    the mirror's mirror is the segment
--   read_inside      the one that is read has that shape
--   as_it_stands, taken_off   the factor of the one that was filed, from that of the one that is read; taken_off_fits
-- Assumes nothing.
use mathlib.Core.Path.{◌≡◌, sym}
use mathlib.Core.Logic.{◌⊎◌, inl, inr}
use Prim.Native.Nat.{ℕ, ◌-◌}
use native.Mathlib.Omega.{arith}
use lib.IntN.{ℤ, pos, ◌-ℤ◌, neg_ℤ-neg_ℤ}
use mir.Syntax.{w32}
use mir.Val.{SFits}
use Rattle.exact.specs.Rounding.{round}
use Rattle.exact.proofs.Magnitude.{size--, sfits_of_size}
use Rattle.exact.proofs.Rounding.{round_rounding}
use Rattle.model.specs.Points.{value_most, Point, Segment, mirror, mirror_segment, Shape, rising, convex, plain, rule_of}
use Rattle.model.specs.Interpolant.{interpolant, exact_curve}
use Rattle.model.specs.Inner.{Limits, Neighbours, Good, Inside}
use Rattle.model.proofs.Mirror.{value_most_even, mirror_inside}
use Rattle.model.proofs.Segments.{interpolant_proper}
use Rattle.shape.specs.declared.Shape as code
use Rattle.shape.specs.declared.Shape.TheVariants.{Rising, Convex, Falling, Concave}
use Rattle.shape.specs.Codes.{code_of}
use Rattle.shape.proofs.Codes.{rule_of_rising, rule_of_convex, rule_of_falling, rule_of_concave}
use Rattle.segment.specs.Inner.{as_filed}
use Rattle.segment.proofs.Distances.{factor_size}

-- ---- the segment

-- the shape by which it is read
abbrev pub plain_shape : code.Shape → Shape
plain_shape Rising = rising
plain_shape Convex = convex
plain_shape Falling = rising
plain_shape Concave = convex

mirror_twice : {p : Point} → Limits p → mirror (mirror p) ≡ p
unfolding mirror
mirror_twice {p} l =
    let value : value_most - (value_most - p.value) ≡ p.value = (let k = l.value in omega arith) in
    rw (value, neg_ℤ-neg_ℤ p.slope)

pub segment_twice : {s : Segment} → Neighbours s → mirror_segment (mirror_segment s) ≡ s
segment_twice n = rw (mirror_twice n.left, mirror_twice n.right)

pub read_inside : (shape : code.Shape) {s : Segment} {x : ℕ} → Neighbours s →
    Inside (Good (rule_of (code_of shape))) (as_filed shape s) x → Inside (Good (plain (plain_shape shape))) s x
read_inside Rising n i = rw rule_of_rising at i
read_inside Convex n i = rw rule_of_convex at i
read_inside Falling n i = rw (segment_twice n) at (mirror_inside (rw rule_of_falling at i))
read_inside Concave n i = rw (segment_twice n) at (mirror_inside (rw rule_of_concave at i))

-- ---- the factor

module _ (shape : code.Shape) {s : Segment} {x : ℕ} (i : Inside (Good (plain (plain_shape shape))) s x) where
  abbrev pub reading : ℤ
  reading = round (interpolant (plain_shape shape) s x)

  abbrev filed : ℤ
  filed = round (exact_curve (rule_of (code_of shape)) (as_filed shape s) x)

  pub as_it_stands : (shape ≡ Rising) ⊎ (shape ≡ Convex) → reading ≡ filed
  unfolding exact_curve
  as_it_stands (inl e) = rw (e, rule_of_rising)
  as_it_stands (inr e) = rw (e, rule_of_convex)

  pub taken_off : (shape ≡ Falling) ⊎ (shape ≡ Concave) → pos value_most -ℤ reading ≡ filed
  unfolding exact_curve
  taken_off (inl e) =
      let p = interpolant_proper (rw e at i) in
      rw (e, rule_of_falling, segment_twice i.good.ends) (sym (round_rounding.from_even (pos value_most) value_most_even _ p))
  taken_off (inr e) =
      let p = interpolant_proper (rw e at i) in
      rw (e, rule_of_concave, segment_twice i.good.ends) (sym (round_rounding.from_even (pos value_most) value_most_even _ p))

  pub taken_off_fits : SFits w32 (pos value_most -ℤ reading)
  unfolding exact_curve
  taken_off_fits = sfits_of_size w32 _ (omega (arith, size-- (pos value_most) reading, factor_size i))
