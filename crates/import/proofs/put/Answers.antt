-- The rows of the points; or they are written into the lists.
use Rattle.std.proofs.Common.{◌∙◌, arith}
use Rattle.refusal.proofs.Results.{refused_exit}
use Rattle.file.proofs.Filled.{after_refusal}
use Rattle.import.proofs.Taking.{refused_by_points, all_pass, given, few, room, after_list}
use Rattle.import.proofs.put.Goals as goal

pub curve_in_lists-requires : goal.curve_in_lists-requires
curve_in_lists-requires c = record { room = c.requires.own }

pub returns-in_err-curve-clause-answer : goal.returns-in_err-curve-clause-answer
returns-in_err-curve-clause-answer c = refused_exit _ _ _ c.from_residual.ensures.1 ∙ refused_by_points _ _ c.in_err-curve.ensures

pub returns-in_err-curve-clause-areas : goal.returns-in_err-curve-clause-areas
returns-in_err-curve-clause-areas c = after_refusal _ (refused_exit _ _ _ c.from_residual.ensures.1)

pub returns-in_err-curve-clause-values : goal.returns-in_err-curve-clause-values
returns-in_err-curve-clause-values c = after_refusal _ (refused_exit _ _ _ c.from_residual.ensures.1)

pub returns-in_err-curve-clause-slopes : goal.returns-in_err-curve-clause-slopes
returns-in_err-curve-clause-slopes c = after_refusal _ (refused_exit _ _ _ c.from_residual.ensures.1)

pub fill-requires : goal.fill-requires
fill-requires c =
    let g = given _ _ _ c.in_ok-curve.ensures in
    let r = room _ _ _ _ c.requires.lent g.points_are in
    record { in_areas = omega arith; in_values = omega arith; in_slopes = omega arith }

pub overflow_cast-result : goal.overflow_cast-result
overflow_cast-result c =
    let g = given _ _ _ c.in_ok-curve.ensures in
    record { fits = omega (arith, few _ _ g.rows, c.count.ensures) }

pub returns-clause-answer : goal.returns-clause-answer
returns-clause-answer c = rw c.count.ensures (all_pass _ _ (given _ _ _ c.in_ok-curve.ensures).rows)

pub returns-clause-areas : goal.returns-clause-areas
returns-clause-areas c =
    let g = given _ _ _ c.in_ok-curve.ensures in c.fill.ensures.areas ∙ after_list _ _ _ _ g.points_are

pub returns-clause-values : goal.returns-clause-values
returns-clause-values c =
    let g = given _ _ _ c.in_ok-curve.ensures in c.fill.ensures.values ∙ after_list _ _ _ _ g.points_are

pub returns-clause-slopes : goal.returns-clause-slopes
returns-clause-slopes c =
    let g = given _ _ _ c.in_ok-curve.ensures in c.fill.ensures.slopes ∙ after_list _ _ _ _ g.points_are
