-- Document 02, item 8: a rising curve, as far as its segments are convex.
--   neighbours_of               a point that passes, and one that follows it
--   neighbours_at               two neighbouring points of an accepted curve
--   run_starts, run_goes_on     a run of convex segments (`Run`), from the first point, one segment more
--   run_ends, run_stops         after the last segment the curve is read as convex; at one that is not convex it is not
-- Assumes nothing.
use mathlib.Core.Path.{◌≡◌, refl, ◌∙◌}
use mathlib.Core.Bool.{true, false}
use mathlib.Core.List.{List, []}
use Prim.Native.Nat.{ℕ, ◌+◌, ◌<◌}
use native.Mathlib.Numerals.{add-one}
use native.Mathlib.Omega.{arith}
use lib.IntN.{pos}
use lib.ListN.{length}
use lib.Signed.{◌≤ℤ◌}
use Rattle.model.specs.Points.{Point, convex, Rule, rule_of}
use Rattle.model.specs.Shape.{has_shape, segment_test}
use Rattle.model.specs.Check.{bad_code}
use Rattle.model.specs.Read.{used_code}
use Rattle.model.specs.Inner.{between, point_at, Limits, Neighbours}
use Rattle.model.proofs.Codes.{rule_of_1, rule_of_2}
use Rattle.model.proofs.Rows.{passed, neighbours}
use Rattle.model.proofs.Segments.{convex_rises}
use Rattle.model.proofs.Accepted.{neighbours_of_rows}
use Rattle.model.proofs.Indexed.{chained_at}
use Rattle.rows.specs.Inner.{Count, Follows, Passing, Run, accepts}
use Rattle.rows.proofs.Faults.{convex_turn, convex_end}
use Rattle.rows.proofs.Passing.{limited_of, passing_goes_on, accepted_of}

pub neighbours_of : {rule : Rule} {p q : Point} → Limits p → Follows rule p q → Neighbours (between p q)
neighbours_of l f = neighbours l (passed 0 _ _ [] (f.point_passes 0))

pub neighbours_at : (ps : List Point) (code i : ℕ) → accepts ps code ≡ true → i + 1 < length ps →
    Neighbours (between (point_at ps i) (point_at ps (i + 1)))
neighbours_at ps code i e h =
    let k = limited_of ps code e in
    let n = neighbours_of_rows ps k.count.least k.points_pass in
    rw add-one (chained_at Neighbours (λ s g. g.ordered) n i (omega arith))

module _ (ps : List Point) where
  pub run_starts : Passing ps 1 0 → pos 0 ≤ℤ (point_at ps 0).slope → Run ps 0
  run_starts k up = record { passing = k; convex = refl; slope = up }

  pub run_goes_on : {i : ℕ} → i + 1 < length ps → Follows (rule_of 2) (point_at ps i) (point_at ps (i + 1)) → Run ps i →
      Run ps (i + 1)
  unfolding segment_test
  run_goes_on {i} h f k =
      let bend = rw (rule_of_2 {code = 2} refl) at f.segment_passes in
      let n = neighbours_of k.passing.limits f in
      let (rise, up) = convex_rises _ n.ordered bend k.slope in
      let rising : Follows (rule_of 1) (point_at ps i) (point_at ps (i + 1)) =
      record { point_passes = f.point_passes; segment_passes = rw (rule_of_1 {code = 1} refl) rise } in
      record {
        passing = passing_goes_on ps 1 h rising k.passing;
        convex = k.convex ∙ rw (convex_turn ps i h, bend) refl;
        slope = up;
      }

  code_1 : bad_code 1 ≡ false
  unfolding bad_code
  code_1 = refl

  pub run_ends : {i : ℕ} → Count (length ps) → i + 1 ≡ length ps → Run ps i → (accepts ps 1 ≡ true) × (used_code ps 1 ≡ 2)
  unfolding used_code
  run_ends {i} n e k = (accepted_of ps 1 n code_1 e k.passing, rw (k.convex, convex_end ps i e) refl)

  pub run_stops : {i : ℕ} → i + 1 < length ps → has_shape convex (between (point_at ps i) (point_at ps (i + 1))) ≡ false →
      Run ps i →
      used_code ps 1 ≡ 1
  unfolding used_code
  run_stops {i} h e k = rw (k.convex, convex_turn ps i h, e) refl
