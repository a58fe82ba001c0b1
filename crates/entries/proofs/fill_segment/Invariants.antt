-- The entries from `index` to i are filled.
use Rattle.std.proofs.Common.{ℕ, List, ℤ}
use Rattle.model.specs.Read.{reading}
use Rattle.model.specs.Sheet.{entry_area}
use Rattle.model.specs.Inner.{Filling}
use Rattle.shape.specs.Codes.{code_of}
use Rattle.entries.proofs.fill_segment.Given as goal

abbrev pub invariant-loop-i : goal.invariant-loop-i
invariant-loop-i g l =
    let ps = g.P.Points.points l.curve.points in
    let f : ℕ → ℤ = λ j. reading ps (code_of l.curve.shape) (entry_area l.steps.start l.steps.step j) in
    (found : List ℤ) → Filling f l.index found l.fn.out → Filling f l.i found l.out
