-- An area inside a segment, in machine numbers.
--   t, u            its distances from the two ends; h_is, their sum is the gap; u_read, as the code computes the second
--   factor_size     a factor is from −200,000 to 400,000
-- Assumes nothing.
use mathlib.Core.Path.{◌≡◌, ◌∙◌}
use mathlib.Core.List.{[], ◌∷◌}
use Prim.Native.Nat.{ℕ, ◌+◌, ◌-◌, ◌≤◌}
use native.Mathlib.Omega.{arith}
use lib.IntN.{pos, nat_abs, ◌-ℤ◌}
use Rattle.exact.specs.Rounding.{round}
use Rattle.exact.proofs.Ring.{ring, terms}
use Rattle.exact.proofs.Order as Z
use Rattle.exact.proofs.Magnitude.{size_between}
use Rattle.exact.proofs.Rounding.{round_rounding}
use Rattle.model.specs.Points.{Segment, Rule}
use Rattle.model.specs.Inner.{Neighbours, Good, Inside}
use Rattle.model.specs.Interpolant.{exact_curve}
use Rattle.model.proofs.Segments.{gap, distance}
use Rattle.model.proofs.Mirror.{curve_proper}
use Rattle.model.proofs.Range.{value_range, reading_range, least_of_all, most_of_all}
use Rattle.shape.proofs.Figures.{h}
use Rattle.segment.specs.Inner.{Distances}

abbrev pub t : Segment → ℕ → ℕ
t s x = x - s.left.area

abbrev pub u : Segment → ℕ → ℕ
u s x = s.right.area - x

module _ {G : Segment → Type 0} {s : Segment} {x : ℕ} (i : Inside G s x) where
  pub from_left : distance s x ≡ pos (t s x)
  from_left = Z.difference_of_≤ i.low

  pub from_right : gap s -ℤ distance s x ≡ pos (u s x)
  from_right = ends_difference ∙ Z.difference_of_≤ i.high
    where
      ends_difference : gap s -ℤ distance s x ≡ pos s.right.area -ℤ pos x
      ends_difference = ring (pos s.right.area ∷ pos s.left.area ∷ pos x ∷ []) (search terms depth 20 fits 9999) tt

  pub h_is : h s ≡ t s x + u s x
  h_is = omega (arith, i.low, i.high)

  pub u_read : h s - t s x ≡ u s x
  u_read = omega (arith, i.low, i.high)

  pub distances : Neighbours s → Distances (t s x) (u s x)
  distances n = record { most = omega (arith, n.near, h_is); least = omega (arith, n.ordered, h_is) }

module _ {rule : Rule} {s : Segment} {x : ℕ} (i : Inside (Good rule) s x) where
  pub factor_size : nat_abs (round (exact_curve rule s x)) ≤ 400000
  factor_size =
      let r = reading_range round_rounding (exact_curve rule s x) (curve_proper i) (value_range i) in
      size_between {n = 400000} _
      (Z.≤_trans (record { le = tt }) (Z.≤_trans (least_of_all rule) r.low)) (Z.≤_trans r.high (most_of_all rule))
