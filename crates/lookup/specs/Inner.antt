-- What contracts of inner functions cite. Nothing here need be believed: the calls' contracts cite document 01's definitions.
-- Assumes nothing.
use Rattle.std.specs.Prelude.{◌≡◌, Bool, true, false, List, ℕ, suc}
use Rattle.model.specs.Inner.{Reached, Taken}

-- whether the segment at an index is taken; if not, the next is reached
pub record TakesResult (areas : List ℕ) (i x : ℕ) (r : Bool) : Type 0 where
  pub yes : r ≡ true → Taken areas i x
  pub no : r ≡ false → Reached areas (suc i) x
