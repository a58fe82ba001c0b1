-- What contracts of inner functions cite. Nothing here need be believed: the calls' contracts cite document 01's definitions.
--   Room    there is room for n points in three lists of these lengths
-- Assumes nothing.
use Rattle.std.specs.Prelude.{ℕ, ◌≤◌}

pub record Room (n areas values slopes : ℕ) : Type 0 where
  pub in_areas : n ≤ areas
  pub in_values : n ≤ values
  pub in_slopes : n ≤ slopes
