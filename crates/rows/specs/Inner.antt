-- What contracts of inner functions cite. Nothing here need be believed: the calls' contracts cite document 01's definitions.
--   Count      as many points as a curve has
--   Limited    so many points, of which rows 3 to 5 refuse none
--   Follows    no row refuses the second of two points or the segment between them
--   accepts    whether rows 1 to 6 refuse nothing
--   points_from, segments_from, convex_from    rows 3 to 5, row 6 and the convex test, from an index on
--   Passing    no row refuses the points to i or the segments between them
--   Run        item 8: so it is under 1, and all these segments are convex; the slope at i is 0 or more
-- Assumes nothing.
use Rattle.std.specs.Prelude.{◌≡◌, Bool, true, List, [], ◌∷◌, ℕ, ◌+◌, ◌≤◌, ◌<◌, pos, ◌≤ℤ◌, length, drop}
use Rattle.std.proofs.Math.Option.{Option, none, some}
use Rattle.model.specs.Answer.{Answer, gives}
use Rattle.model.specs.Points.{points_least, points_most, Point, segments, Rule, rule_of}
use Rattle.model.specs.Shape.{segment_test}
use Rattle.model.specs.Check.{point_rows, segment_rows, curve_rows}
use Rattle.model.specs.Read.{all_convex}
use Rattle.model.specs.Inner.{gives_nothing, between, point_at, Limits}

pub record Count (n : ℕ) : Type 0 where
  pub least : points_least ≤ n
  pub most : n ≤ points_most

pub record Limited (ps : List Point) : Type 0 where
  pub count : Count (length ps)
  pub points_pass : point_rows 0 none ps ≡ gives tt

pub record Follows (rule : Rule) (p q : Point) : Type 0 where
  pub point_passes : (i : ℕ) → point_rows i (some p.area) (q ∷ []) ≡ gives tt
  pub segment_passes : segment_test rule (between p q) ≡ true

abbrev pub accepts : List Point → ℕ → Bool
accepts ps code = gives_nothing (curve_rows ps code)

module _ (ps : List Point) where
  abbrev pub points_from : Option ℕ → ℕ → Answer (Unit {0})
  points_from before i = point_rows i before (drop i ps)

  abbrev pub segments_from : Rule → ℕ → Answer (Unit {0})
  segments_from rule i = segment_rows i rule (segments (drop i ps))

  abbrev pub convex_from : ℕ → Bool
  convex_from i = all_convex (segments (drop i ps))

pub record Passing (ps : List Point) (code i : ℕ) : Type 0 where
  pub inner : i < length ps
  pub limits : Limits (point_at ps i)
  pub points_pass : points_from ps (some (point_at ps i).area) (i + 1) ≡ points_from ps none 0
  pub segments_pass : segments_from ps (rule_of code) i ≡ segments_from ps (rule_of code) 0

pub record Run (ps : List Point) (i : ℕ) : Type 0 where
  pub passing : Passing ps 1 i
  pub convex : all_convex (segments ps) ≡ convex_from ps i
  pub slope : pos 0 ≤ℤ (point_at ps i).slope
