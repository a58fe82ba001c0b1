-- What contracts of inner functions cite. Nothing here need be believed: the calls' contracts cite document 01's definitions.
--   AllInside     n entries whose areas are all inside the curve
--   NextEntry     the next entry of these, if any is left, reaches the segment at k
--   FilledUpTo    the entries that take that segment are filled too; the next, if any is left, reaches the segment after it
-- Assumes nothing.
use Rattle.std.specs.Prelude.{◌≡◌, false, List, ℕ, suc, ◌≤◌, ◌<◌, ℤ, length}
use Rattle.model.specs.Points.{Point}
use Rattle.model.specs.Read.{outside}
use Rattle.model.specs.Sheet.{entry_area}
use Rattle.model.specs.Inner.{areas_of, Reached, Filling}

pub record AllInside (ps : List Point) (start step n : ℕ) : Type 0 where
  pub inside : (i : ℕ) → i < n → outside ps (entry_area start step i) ≡ false

pub record NextEntry (ps : List Point) (k start step index n : ℕ) : Type 0 where
  pub entries : AllInside ps start step n
  pub inner : suc k < length ps
  pub left : index ≤ n
  pub reached : index < n → Reached (areas_of ps) k (entry_area start step index)

pub record FilledUpTo (f : ℕ → ℤ) (ps : List Point) (k start step index next : ℕ) (before after : List ℤ) : Type 0 where
  pub least : index ≤ next
  pub most : next ≤ length before
  pub reached : next < length before → Reached (areas_of ps) (suc k) (entry_area start step next)
  pub filled : (found : List ℤ) → Filling f index found before → Filling f next found after
