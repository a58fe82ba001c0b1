-- What contracts of inner functions cite. Nothing here need be believed: the calls' contracts cite document 01's definitions.
--   first_points    the first n points of a file; `points_of` is those of its count
--   Holds           n points are in a file of so many bytes
-- Assumes nothing.
use Rattle.std.specs.Prelude.{ℕ, ◌≤◌, List}
use Rattle.model.specs.Points.{Point}
use Rattle.model.specs.Sheet.{tabulate}
use Rattle.layout.specs.Layout.{point_offset, record_at}

abbrev pub first_points : List ℕ → ℕ → List Point
first_points bytes n = tabulate (record_at bytes) 0 n

pub record Holds (n bytes : ℕ) : Type 0 where
  pub file : point_offset n ≤ bytes
