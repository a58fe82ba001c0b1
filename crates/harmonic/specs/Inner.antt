-- What laws and contracts of inner functions cite. Nothing here need be believed: the call's contract cites Rule and Fill.
--   rated_rows           rows 3, 4 and 6; Counted, row 1 is passed; zero_slope_points, points with slopes 0
--   Climbs, Climbing     what rows 1, 3, 4 and 6 leave of two neighbouring points, of all points
--   Chord                a chord; Sized, its sizes
--   ChordAt              the chord that begins at an index
--   slope_of             a chord's slope; across, the slope across two chords
-- Assumes nothing.
use Rattle.std.specs.Prelude.{◌≡◌, List, ℕ, ◌+◌, ◌-◌, ◌≤◌, ◌<◌, pos, length, get_or, replicate}
use Rattle.std.proofs.Math.Option.{none}
use Rattle.exact.specs.Fraction.{Fraction, ◌over◌}
use Rattle.model.specs.Answer.{Answer, ◌then◌, row_at_each}
use Rattle.model.specs.Points.{points_least, points_most, gap_most, value_most, Point, points}
use Rattle.harmonic.specs.Fill.{area_and_value_rows, falls}

-- rows 3 and 4, then 6
abbrev pub rated_rows : List ℕ → List ℕ → Answer (Unit {0})
rated_rows areas values =
    area_and_value_rows 0 none areas values then row_at_each (falls values) 6 0 (length areas - 1)

-- row 1 is passed
pub record Counted (areas values : List ℕ) : Type 0 where
  pub same_length : length areas ≡ length values
  pub least : points_least ≤ length areas
  pub most : length areas ≤ points_most

-- the points with slopes that are all 0
abbrev pub zero_slope_points : List ℕ → List ℕ → List Point
zero_slope_points areas values = points areas values (replicate (length areas) (pos 0))

-- from the point at i to the next
pub record Climbs (areas values : List ℕ) (i : ℕ) : Type 0 where
  pub ordered : get_or areas i 0 < get_or areas (i + 1) 0
  pub near : get_or areas (i + 1) 0 ≤ get_or areas i 0 + gap_most
  pub rises : get_or values i 0 ≤ get_or values (i + 1) 0
  pub limit : get_or values (i + 1) 0 ≤ value_most

pub record Climbing (areas values : List ℕ) : Type 0 where
  pub counted : Counted areas values
  pub climbs : (i : ℕ) → i + 1 < length areas → Climbs areas values i

-- a chord, by its rise and the gap that it spans
pub record Chord : Type 0 where
  pub rise : ℕ
  pub gap : ℕ

-- the sizes of a chord
pub record Sized (c : Chord) : Type 0 where
  pub rise : c.rise ≤ value_most
  pub some : 0 < c.gap
  pub gap : c.gap ≤ gap_most

pub record ChordAt (areas values : List ℕ) (i : ℕ) (c : Chord) : Type 0 where
  pub rise : c.rise ≡ get_or values (i + 1) 0 - get_or values i 0
  pub gap : c.gap ≡ get_or areas (i + 1) 0 - get_or areas i 0
  pub sized : Sized c

abbrev pub slope_of : Chord → Fraction
slope_of c = pos c.rise over pos c.gap

abbrev pub across : Chord → Chord → Fraction
across left right = pos (left.rise + right.rise) over pos (left.gap + right.gap)
