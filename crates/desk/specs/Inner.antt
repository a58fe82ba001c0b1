-- What lemmas cite. Nothing here need be believed: the call's contract cites document 01's definitions.
--   CopiedTo   the first bytes of a list are those of src, the others as found
-- Assumes nothing.
use Rattle.std.specs.Prelude.{◌≡◌, List, ◌++◌, ℕ, ◌≤◌, length, take, drop}

pub record CopiedTo (src found dst : List ℕ) (at : ℕ) : Type 0 where
  pub room : length src ≤ length found
  pub inner : at ≤ length src
  pub is : dst ≡ take at src ++ drop at found
