-- Row 1 of the lists, rows 1, 3, 4 and 6 of the points, row 5 of the figures; then the figures are copied.
use Rattle.std.proofs.Common.{◌≡◌, ℤ, length, refl, sym, ◌∙◌, arith}
use lib.ListN.{length-take}
use Rattle.model.specs.Answer.{gives, row, ◌then◌, filled}
use Rattle.model.specs.Check.{curve_rows}
use Rattle.model.specs.Inner.{Alike}
use Rattle.model.proofs.Rows.{alike_of_row_1, then_first}
use Rattle.refusal.proofs.Results.{refused_exit}
use Rattle.harmonic.specs.Fill.{fill_answer}
use Rattle.harmonic.specs.Inner.{zero_slope_points}
use Rattle.harmonic.proofs.Rising.{climbing_of}
use Rattle.harmonic.proofs.Answers.{refused_by_rows, refused_by_steep, given_all}
use Rattle.slopes.proofs.Filling.{written}
use Rattle.slopes.proofs.supply.Goals as goal
use Rattle.slopes.proofs.supply.Goals.{Else-lengths_differ, In_ok-new}

pub returns-then-lengths_differ-clause-answer : goal.returns-then-lengths_differ-clause-answer
unfolding fill_answer row ◌then◌
returns-then-lengths_differ-clause-answer c = rw (c.at.ensures, sym c.lengths_differ.ensures ∙ c.if-lengths_differ.true)

pub returns-then-lengths_differ-clause-slopes : goal.returns-then-lengths_differ-clause-slopes
unfolding filled
returns-then-lengths_differ-clause-slopes c = refl

-- ---- row 1 of the lists is passed

alike : (c : Else-lengths_differ) → Alike (length c.args.areas.now) (length c.args.values.now) (length c.args.slopes.now)
alike c = alike_of_row_1 _ _ _ (sym c.lengths_differ.ensures ∙ c.if-lengths_differ.false)

pub invariant_of-new : goal.invariant_of-new
invariant_of-new c = record { values_too = (alike (goal.at.invariant_of-new c).Else-lengths_differ).values_too }

pub returns-in_err-new-clause-answer : goal.returns-in_err-new-clause-answer
returns-in_err-new-clause-answer c =
    let same = sym c.lengths_differ.ensures ∙ c.if-lengths_differ.false in
    refused_exit _ _ _ c.from_residual.ensures.1 ∙ refused_by_rows _ _ _ same _ (rw c.code.ensures at c.in_err-new.ensures)

pub returns-in_err-new-clause-slopes : goal.returns-in_err-new-clause-slopes
unfolding filled
returns-in_err-new-clause-slopes c = rw (refused_exit _ _ _ c.from_residual.ensures.1) refl

-- ---- the points climb

pass : (c : In_ok-new) → curve_rows (zero_slope_points c.args.areas.now c.args.values.now) 1 ≡ gives tt
pass c = then_first (curve_rows _ 1) _ (sym (rw c.code.ensures at c.in_ok-new.ensures))

pub invariant_of-rising : goal.invariant_of-rising
invariant_of-rising c =
    let k = alike (goal.at.invariant_of-rising c).Else-lengths_differ in
    record { climbing = climbing_of _ _ k.values_too (pass c) }

pub returns-in_err-fill_figures-clause-answer : goal.returns-in_err-fill_figures-clause-answer
returns-in_err-fill_figures-clause-answer c =
    let same = sym c.lengths_differ.ensures ∙ c.if-lengths_differ.false in
    let e = pass (goal.at.returns-in_err-fill_figures-clause-answer c).In_ok-new in
    refused_exit _ _ _ c.from_residual-in_err-fill_figures.ensures.1
    ∙ refused_by_steep _ _ _ same e c.in_err-fill_figures.ensures.answer

pub returns-in_err-fill_figures-clause-slopes : goal.returns-in_err-fill_figures-clause-slopes
unfolding filled
returns-in_err-fill_figures-clause-slopes c = rw (refused_exit _ _ _ c.from_residual-in_err-fill_figures.ensures.1) refl

-- ---- row 5 refuses none

pub copy_from_slice-requires : goal.copy_from_slice-requires
copy_from_slice-requires c =
    let at = goal.at.copy_from_slice-requires c in
    let k = climbing_of _ _ (alike at.Else-lengths_differ).values_too (pass at.In_ok-new) in
    omega (arith, (alike at.Else-lengths_differ).slopes_too, k.counted.most, c.fill_figures.array_long, length-take {A = ℤ})

pub returns-clause-answer : goal.returns-clause-answer
returns-clause-answer c =
    let same = sym c.lengths_differ.ensures ∙ c.if-lengths_differ.false in
    given_all _ _ _ same (pass (goal.at.returns-clause-answer c).In_ok-new) c.in_ok-fill_figures.ensures.answer

pub returns-clause-slopes : goal.returns-clause-slopes
unfolding filled
returns-clause-slopes c =
    let e = (alike (goal.at.returns-clause-slopes c).Else-lengths_differ).slopes_too in
    written _ _ c.args.slopes.now _ e c.in_ok-fill_figures.ensures.list c.copy_from_slice.ensures.after
