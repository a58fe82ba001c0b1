-- Each entry from `index` on that takes the segment is filled with the factor there.
use Rattle.std.proofs.Common.{◌≡◌, ℕ, ℤ, pos, w32, to_z, of_z, to_z-of_z, add-one, sym, ◌∙◌, ap, arith}
use Rattle.model.specs.Points.{rule_of}
use Rattle.model.specs.Read.{reading}
use Rattle.model.specs.Sheet.{entry_area}
use Rattle.model.specs.Inner.{Good, Readable}
use Rattle.model.proofs.Walk.{good_ordered}
use Rattle.model.proofs.Indexed.{chained_at}
use Rattle.model.proofs.Accepted.{chained_of, area_limit, inside, reading_is}
use Rattle.model.proofs.Filling.{filling_goes_on}
use Rattle.shape.specs.Codes.{code_of}
use Rattle.rows.proofs.Passing.{accepted}
use Rattle.lookup.proofs.Areas.{most}
use Rattle.entries.proofs.fill_segment.Goals as goal

pub overflow_add-k : goal.overflow_add-k
overflow_add-k g c = record { fits = omega (arith, c.requires.inner, most _ _ c.args.curve.now.accepted) }

-- each segment of an accepted curve, also one that no entry takes
pub invariant_of-segment : goal.invariant_of-segment
invariant_of-segment g c =
    let a = chained_of (accepted _ _ c.args.curve.now.accepted) in
    let segment = chained_at (Good (rule_of (code_of c.args.curve.now.shape))) good_ordered a c.args.k c.requires.inner in
    record { neighbours = rw (c.point.ensures, c.point-2.ensures, add-one) segment.ends }

pub area-area-requires : goal.area-area-requires
area-area-requires g c =
    area_limit (accepted _ _ c.args.curve.now.accepted) _ (c.requires.entries.inside c.loop-i.i (omega arith))

-- the entry in a turn takes the segment
readable : (g : _) (c : goal.Else-not-takes g) →
    (let k = c.args.curve.now in
    Readable (g.P.Points.points k.points) (code_of k.shape) c.args.k c.area-area.result)
readable g c =
    record {
      accepted = accepted _ _ c.args.curve.now.accepted;
      within = rw c.area-area.ensures (c.requires.entries.inside c.loop-i.i (omega arith));
      taken = c.takes.ensures.yes c.if-not-takes.false;
    }

pub factor-requires : goal.factor-requires
factor-requires g c =
    let facing = c.new-facing.ensures in
    rw (facing.shape, facing.segment, c.point.ensures, c.point-2.ensures, add-one) (inside (readable g c))

pub loop-i-preserved : goal.loop-i-preserved
loop-i-preserved g c found k =
    let curve = c.args.curve.now in
    let factor : ℕ → ℤ = reading (g.P.Points.points curve.points) (code_of curve.shape) in
    let f : ℕ → ℤ = λ j. factor (entry_area c.args.steps.start c.args.steps.step j) in
    let filled = c.loop-i.invariant found k in
    let facing = c.new-facing.ensures in
    let read = rw (facing.shape, facing.segment, c.point.ensures, c.point-2.ensures, add-one) at c.factor.ensures in
    let written : to_z w32 (of_z w32 c.factor.result) ≡ f c.loop-i.i =
    to_z-of_z {w = w32} (record { sfits = c.factor.type_inv })
    ∙ read ∙ sym (reading_is (readable g c.before)) ∙ ap factor c.area-area.ensures in
    filling_goes_on f (pos 0) _ filled (omega (arith, filled.size)) written
