-- The entries before `index` are filled; the next, if any is left, reaches the segment at k. Each turn fills one at least.
use Rattle.std.proofs.Common.{ℕ, ℤ, ◌≤◌, ◌<◌, ◌-◌, length}
use Rattle.model.specs.Read.{reading}
use Rattle.model.specs.Sheet.{entry_area}
use Rattle.model.specs.Inner.{areas_of, Reached, Filling}
use Rattle.shape.specs.Codes.{code_of}
use Rattle.entries.proofs.fill.Given as goal

abbrev pub invariant-loop-index : goal.invariant-loop-index
invariant-loop-index g l =
    let ps = g.P.Points.points l.curve.points in
    let f : ℕ → ℤ = λ j. reading ps (code_of l.curve.shape) (entry_area l.steps.start l.steps.step j) in
    record {
      most : l.index ≤ length l.fn.out;
      reached : l.index < length l.fn.out → Reached (areas_of ps) l.k (entry_area l.steps.start l.steps.step l.index);
      filling : Filling f l.index l.fn.out l.out;
    }

abbrev pub decreases-loop-index : goal.decreases-loop-index
decreases-loop-index g l = length l.fn.out - l.index
