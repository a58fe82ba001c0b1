-- What contracts of inner functions cite. Nothing here need be believed: the calls' contracts cite document 01's definitions.
--   first_answer       a row that refuses at a place, or not at all; gives_nothing, whether rows refuse nothing
--   read_rows          rows 1 to 7; Accepted, rows 1 to 6 refuse nothing
--   Alike              three lists are equally long
--   point_at           the point at an index; segment_at, the segment that begins there
--   Limits             what rows 3 to 5 leave of a point; Neighbours, of two; Good, and row 6 too
--   Inside             an area is read in a segment
--   Reached, Taken     the segment that an area takes, by its index; Readable, on an accepted curve
--   Strides, LastOf    a search for that index in steps, and what it finds
--   Filling            a list that is filled from the front
-- Assumes nothing.
use Rattle.std.specs.Prelude.{◌≡◌, Bool, true, false, List, map, ◌++◌, ◌⊎◌, ℕ, suc, ◌+◌}
use Rattle.std.specs.Prelude.{◌≤◌, ◌<◌, T, ltb, pos, neg_ℤ, length, get_or, drop, ◌≤ℤ◌}
use Rattle.model.specs.Answer.{Answer, gives, refused, row, ◌then◌}
use Rattle.model.specs.Points.{points_most, area_most, gap_most, value_most, slope_most, Point, Segment, Rule}
pub use Rattle.model.specs.Points.{between, origin, point_at, segment_at}
use Rattle.model.specs.Shape.{segment_test}
use Rattle.model.specs.Check.{curve_rows}
use Rattle.model.specs.Read.{outside}
use Rattle.model.specs.Sheet.{tabulate}

-- a row at each of n places, by the first place where its condition holds
abbrev pub first_answer : ℕ → ℕ → ℕ → Answer (Unit {0})
first_answer number place n = row (ltb place n) number place

abbrev pub gives_nothing : Answer (Unit {0}) → Bool
gives_nothing (gives u) = true
gives_nothing (refused number place) = false

-- rows 1 to 7 of one area
abbrev pub read_rows : List Point → ℕ → ℕ → Answer (Unit {0})
read_rows ps code x = curve_rows ps code then row (outside ps x) 7 0

pub record Accepted (ps : List Point) (code : ℕ) : Type 0 where
  pub none_applies : curve_rows ps code ≡ gives tt

-- the lengths of three lists
pub record Alike (areas values slopes : ℕ) : Type 0 where
  pub values_too : areas ≡ values
  pub slopes_too : areas ≡ slopes

abbrev pub areas_of : List Point → List ℕ
areas_of ps = map (λ p. p.area) ps

-- rows 3, 4 and 5 are passed
pub record Limits (p : Point) : Type 0 where
  pub area : p.area ≤ area_most
  pub value : p.value ≤ value_most
  pub slope_low : neg_ℤ (pos slope_most) ≤ℤ p.slope
  pub slope_high : p.slope ≤ℤ pos slope_most

pub record Neighbours (s : Segment) : Type 0 where
  pub left : Limits s.left
  pub right : Limits s.right
  pub ordered : s.left.area < s.right.area
  pub near : s.right.area ≤ s.left.area + gap_most

pub record Good (rule : Rule) (s : Segment) : Type 0 where
  pub ends : Neighbours s
  pub shaped : T (segment_test rule s)

-- an area between the ends of a segment of which G holds
pub record Inside (G : Segment → Type 0) (s : Segment) (x : ℕ) : Type 0 where
  pub good : G s
  pub low : s.left.area ≤ x
  pub high : x ≤ s.right.area

-- the area at an index is not above the area read
pub record Reached (areas : List ℕ) (i x : ℕ) : Type 0 where
  pub inner : suc i < length areas
  pub low : get_or areas i 0 ≤ x

-- and the next is above it, or there is no later segment
pub record Taken (areas : List ℕ) (i x : ℕ) : Type 0 where
  pub reached : Reached areas i x
  pub high : (x < get_or areas (suc i) 0) ⊎ (suc (suc i) ≡ length areas)

-- from an index before `end` in steps of 1 to 8, all before the last of the n areas of a curve
pub record Strides (n from step end : ℕ) : Type 0 where
  pub some : 0 < step
  pub few : step ≤ 8
  pub before : from < end
  pub inner : end < n
  pub most : n ≤ points_most

-- the area at an index before `end` is not above the area read, and a step further is one that is, or `end`
pub record LastOf (areas : List ℕ) (i step end x : ℕ) : Type 0 where
  pub reached : Reached areas i x
  pub before : i < end
  pub high : (x < get_or areas (i + step) 0) ⊎ (end ≤ i + step)

-- an area of an accepted curve, and the index of the segment that it takes
pub record Readable (ps : List Point) (code i x : ℕ) : Type 0 where
  pub accepted : Accepted ps code
  pub within : outside ps x ≡ false
  pub taken : Taken (areas_of ps) i x

-- f in the first i entries, the others as found
pub record Filling {A : Type 0} (f : ℕ → A) (i : ℕ) (found filled : List A) : Type 0 where
  pub size : length filled ≡ length found
  pub is : filled ≡ tabulate f 0 i ++ drop i found
