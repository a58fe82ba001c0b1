-- Laws of rows 1 to 6, for the functions that try them.
--   then_gives, then_refused    what comes after a result decides; after a refusal nothing does
--   limits_passed               a point that passes rows 3 to 5 keeps its limits
--   point_turn, segment_turn    one turn of a loop over the rows from an index on; convex_turn, over the convex test
-- Assumes nothing.
use mathlib.Core.Path.{◌≡◌, refl, sym}
use mathlib.Core.Bool.{Bool, true, not, ◌&&◌}
use mathlib.Core.List.{List, [], ◌∷◌}
use mathlib.Core.Option.{Option, some}
use Prim.Native.Nat.{ℕ, suc, ◌+◌, ◌<◌}
use native.Mathlib.Numerals.{add-one}
use native.Mathlib.Omega.{arith}
use lib.ListN.{length, drop}
use lib.Seq.{drop-cons, drop-length}
use Rattle.model.specs.Answer.{Answer, gives, refused, row, ◌then◌}
use Rattle.model.specs.Points.{Point, segments, convex, Rule}
use Rattle.model.specs.Shape.{has_shape, segment_test}
use Rattle.model.specs.Check.{point_rows, segment_rows}
use Rattle.model.specs.Read.{all_convex}
use Rattle.model.specs.Inner.{between, origin, point_at, Limits}
use Rattle.model.proofs.Rows.{passed}
use Rattle.rows.specs.Inner.{points_from, segments_from, convex_from}

pub then_gives : {A : Type 0} {a : Answer (Unit {0})} (rest : Answer A) → a ≡ gives tt → (a then rest) ≡ rest
unfolding ◌then◌
then_gives rest e = rw e

pub then_refused : {A : Type 0} {a : Answer (Unit {0})} {number place : ℕ} (rest : Answer A) → a ≡ refused number place →
    (a then rest) ≡ refused number place
unfolding ◌then◌
then_refused rest e = rw e

pub limits_passed : (i : ℕ) (before : Option ℕ) (p : Point) → point_rows i before (p ∷ []) ≡ gives tt → Limits p
limits_passed i before p e = (passed i before p [] e).limits

-- ---- one turn of a loop over points, or over segments

then_regroup : (x y z rest : Answer (Unit {0})) → (x then y then z then rest) ≡ ((x then y then z then gives tt) then rest)
unfolding ◌then◌
then_regroup (refused n i) y z rest = refl
then_regroup (gives u) (refused n i) z rest = refl
then_regroup (gives u) (gives v) (refused n i) rest = refl
then_regroup (gives u) (gives v) (gives w) rest = refl

module _ (ps : List Point) where
  -- the point at i, then the rows of the points after it
  pub point_turn : (before : Option ℕ) (i : ℕ) (p : Point) → i < length ps → p ≡ point_at ps i →
      (point_rows i before (p ∷ []) then points_from ps (some p.area) (i + 1)) ≡ points_from ps before i
  unfolding point_rows
  point_turn before i p h e = rw (e, drop-cons ps i origin h, add-one i) (sym (then_regroup _ _ _ _))

  pub point_end : (before : Option ℕ) (i : ℕ) → i ≡ length ps → points_from ps before i ≡ gives tt
  unfolding point_rows
  point_end before i e = rw (e, drop-length ps)

  -- the segments from an index on: the segment there, then those after it
  segments_turn : (i : ℕ) → i + 1 < length ps →
      segments (drop i ps) ≡ between (point_at ps i) (point_at ps (i + 1)) ∷ segments (drop (i + 1) ps)
  unfolding segments
  segments_turn i h =
      let here : i < length ps = omega arith in
      let next : suc i < length ps = omega arith in
      rw (add-one i, drop-cons ps i origin here, drop-cons ps (suc i) origin next)

  segments_end : (i : ℕ) → i + 1 ≡ length ps → segments (drop i ps) ≡ []
  unfolding segments
  segments_end i e =
      let here : i < length ps = omega arith in
      rw (drop-cons ps i origin here, ← add-one i, e, drop-length ps)

  -- row 6 of the segment at i, then of the segments after it
  pub segment_turn : (rule : Rule) (i : ℕ) {b : Bool} (p q : Point) → i + 1 < length ps →
      p ≡ point_at ps i →
      q ≡ point_at ps (i + 1) →
      b ≡ segment_test rule (between p q) →
      (row (not b) 6 i then segments_from ps rule (i + 1)) ≡ segments_from ps rule i
  unfolding segment_rows
  segment_turn rule i p q h e f g = rw (g, e, f, segments_turn i h, add-one i)

  pub segment_end : (rule : Rule) (i : ℕ) → i + 1 ≡ length ps → segments_from ps rule i ≡ gives tt
  unfolding segment_rows
  segment_end rule i e = rw (segments_end i e)

  pub convex_turn : (i : ℕ) → i + 1 < length ps →
      convex_from ps i ≡ (has_shape convex (between (point_at ps i) (point_at ps (i + 1))) && convex_from ps (i + 1))
  unfolding all_convex
  convex_turn i h = rw (segments_turn i h)

  pub convex_end : (i : ℕ) → i + 1 ≡ length ps → convex_from ps i ≡ true
  unfolding all_convex
  convex_end i e = rw (segments_end i e)
