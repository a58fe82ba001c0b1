-- Document 02, item 7: the statistics package's points. Rows 13 and 14, and rows 3 to 6 there.
-- Assumes nothing.
use Rattle.std.specs.Prelude.{ℕ, suc, ◌+◌, ◌*◌, ◌/◌, ◌%◌, Bool, true, not, List, [], ◌∷◌, map, eqb, ℤ, pos, negsuc, length, Float}
use Rattle.std.proofs.Math.Option.{Option, none, some}
use Rattle.std.specs.Float.{binary64}
use Rattle.std.specs.Float.Ieee.{of_bits}
use Rattle.model.specs.Answer.{Answer, gives, refused, row, ◌then◌}
use Rattle.model.specs.Points.{Point, segments, rule_of, origin}
use Rattle.model.specs.Check.{bad_count, bad_code, bad_area, bad_value, bad_slope, segment_rows}
use Rattle.model.specs.Sheet.{tabulate}
use Rattle.layout.specs.Layout.{little_endian}
use Rattle.binary64.specs.Value.{whole_number}

-- 24 bytes a point, with no header
abbrev pub triple_size : ℕ
triple_size = 24

-- row 13: a length that is no multiple of 24
unfoldable pub bad_length : List ℕ → Bool
bad_length bytes = not (eqb (length bytes % triple_size) 0)

-- the figures of a point, of whatever value
pub record Triple : Type 0 where
  pub area : Float
  pub value : Float
  pub slope : Float

module _ (bytes : List ℕ) where
  -- a figure: binary64, little-endian
  unfoldable pub figure_at : ℕ → Float
  figure_at at = of_bits binary64 (little_endian bytes at 8)

  -- area, value, slope
  unfoldable pub triple_at : ℕ → Triple
  triple_at i =
      record {
        area = figure_at (triple_size * i);
        value = figure_at (triple_size * i + 8);
        slope = figure_at (triple_size * i + 16);
      }

  abbrev pub count : ℕ
  count = length bytes / triple_size

-- a point of whole numbers, of any sign and size
pub record WholePoint : Type 0 where
  pub area : ℤ
  pub value : ℤ
  pub slope : ℤ

-- a point is taken if each of its figures is a finite whole number
unfoldable pub whole_point : Option ℤ → Option ℤ → Option ℤ → Option WholePoint
whole_point (some area) (some value) (some slope) = some (record { area = area; value = value; slope = slope })
whole_point (some area) (some value) none = none
whole_point (some area) none slope = none
whole_point none value slope = none

abbrev pub taken : Triple → Option WholePoint
taken t = whole_point (whole_number t.area) (whole_number t.value) (whole_number t.slope)

-- all points of the export
abbrev pub exported : List ℕ → List (Option WholePoint)
exported bytes = tabulate (λ i. taken (triple_at bytes i)) 0 (count bytes)

-- a negative area counts under 3 and a negative value under 4
unfoldable pub or_negative : (ℕ → Bool) → ℤ → Bool
or_negative bad (pos n) = bad n
or_negative bad (negsuc n) = true

-- a number that is not negative, as a natural number
unfoldable pub natural : ℤ → ℕ
natural (pos n) = n
natural (negsuc n) = 0

-- at each point row 14, a figure that is not a finite whole number, just before 3, 4 and 5
unfoldable pub triple_rows : ℕ → Option ℕ → List (Option WholePoint) → Answer (Unit {0})
triple_rows i before [] = gives tt
triple_rows i before (none ∷ ps) = refused 14 i
triple_rows i before (some p ∷ ps) =
    row (or_negative (bad_area before) p.area) 3 i
    then row (or_negative bad_value p.value) 4 i
    then row (bad_slope p.slope) 5 i
    then triple_rows (suc i) (some (natural p.area)) ps

-- the point; it is taken where rows 14, 3 and 4 are passed
unfoldable pub point_from : Option WholePoint → Point
point_from none = origin
point_from (some p) = record { area = natural p.area; value = natural p.value; slope = p.slope }

-- rows 1 to 6, and 14, of an export's points and a shape code
unfoldable pub export_rows : List (Option WholePoint) → ℕ → Answer (Unit {0})
export_rows ps code =
    row (bad_count (length ps)) 1 0 then row (bad_code code) 2 0
    then triple_rows 0 none ps then segment_rows 0 (rule_of code) (segments (map point_from ps))
