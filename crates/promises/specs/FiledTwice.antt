-- Document 02, item 8: the same points, accepted under 1 and under 2, are quoted alike. Proofs: proofs/FiledTwice.antt.
-- Assumes nothing.
use Rattle.std.specs.Prelude.{ℕ, ◌≡◌, List, ℤ, length}
use Rattle.model.specs.Laws.{Curve, exact}
use Rattle.promises.specs.FactorRead.{FactorRead, read_of, pair_of, sheet_of, list_of}

pub record QuotedAlike (c d : Curve) : Type 0 where
  -- at every area the exact values are one
  pub same_exact : (x : ℕ) → exact c x ≡ exact d x
  -- Read, Pair and Sheet answer alike, their refusals of areas included, and Sheet leaves the same list
  pub read_alike : (x : ℕ) → read_of c x ≡ read_of d x
  pub pair_alike : (form plan : ℕ) → pair_of c form plan ≡ pair_of d form plan
  pub sheet_alike : (start step n : ℕ) → sheet_of c start step n ≡ sheet_of d start step n
  pub list_alike : (start step : ℕ) (out : List ℤ) → list_of c start step out ≡ list_of d start step out
  -- and an area reads one factor under both, whichever calls read it, the desk readings among them
  pub same_factor : (x : ℕ) (f g : ℤ) → FactorRead c x f → FactorRead d x g → f ≡ g

abbrev pub FiledTwice : Type 0
FiledTwice = (c d : Curve) → c.points ≡ d.points → c.code ≡ 1 → d.code ≡ 2 → QuotedAlike c d
