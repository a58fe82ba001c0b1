-- Document 02, item 7: the curves of the statistics package. Import's answer says whether a curve is accepted, and an accepted
-- curve's export is taken; so the third demand, which covers every way to read a curve, its files too, covers what Import takes.
-- Proofs: proofs/Imported.antt.
-- Assumes nothing.
use Rattle.std.specs.Prelude.{ℕ, ◌≤◌, ◌≡◌, List, length}
use Rattle.model.specs.Answer.{gives}
use Rattle.model.specs.Laws.{Curve}
use Rattle.import.specs.Import.{points_of, import_answer}
use Rattle.import.specs.Laws.{Exports}

-- what Import takes is an accepted curve
abbrev pub ImportAccepts : Type 0
ImportAccepts =
    (bytes : List ℕ) (code areas values slopes n : ℕ) → import_answer bytes code areas values slopes ≡ gives n →
    (c : Curve) × (c.points ≡ points_of bytes) × (c.code ≡ code) × (length c.points ≡ n)

-- an export of an accepted curve is taken, into lists long enough, and has the curve's points
abbrev pub CurvesAreTaken : Type 0
CurvesAreTaken =
    (c : Curve) (bytes : List ℕ) → Exports bytes c.points → (areas values slopes : ℕ) →
    length c.points ≤ areas → length c.points ≤ values → length c.points ≤ slopes →
    (import_answer bytes c.code areas values slopes ≡ gives (length c.points)) × (points_of bytes ≡ c.points)
