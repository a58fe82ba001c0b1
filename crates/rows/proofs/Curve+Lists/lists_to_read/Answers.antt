-- Row 1 of the lists, then the rows of their points, and the code used.
use Rattle.std.proofs.Common.{sym, ◌∙◌}
use Rattle.model.specs.Answer.{row, ◌then◌}
use Rattle.model.specs.Check.{on_lists}
use Rattle.model.proofs.Rows.{row_refused}
use Rattle.model.proofs.Answers.{then_refused, refused_first}
use Rattle.refusal.proofs.Results.{refused_exit}
use Rattle.rows.proofs.Lists.{lent_alike, lent_points}
use Rattle.rows.proofs.Curve+Lists.lists_to_read.Goals as goal

pub returns-in_err-points-clause-answer : goal.returns-in_err-points-clause-answer
unfolding on_lists row ◌then◌
returns-in_err-points-clause-answer c =
    let k = row_refused _ 1 0 _ (sym c.in_err-points.ensures) in
    refused_exit _ _ _ c.from_residual.ensures.1 ∙ rw (k.0, k.1)

pub returns-in_err-shape-clause-answer : goal.returns-in_err-shape-clause-answer
unfolding on_lists row ◌then◌
returns-in_err-shape-clause-answer c =
    let e = c.in_ok-points.ensures in
    rw (lent_alike _ _ _ e)
    (refused_exit _ _ _ c.from_residual-in_err-shape.ensures.1
    ∙ sym (then_refused _ _ (refused_first _ _ (sym (rw (lent_points _ _ _ e) at c.in_err-shape.ensures.answer)))))

pub returns-clause-answer : goal.returns-clause-answer
unfolding on_lists row ◌then◌
returns-clause-answer c =
    let e = c.in_ok-points.ensures in
    rw (lent_alike _ _ _ e) (rw (lent_points _ _ _ e) at c.in_ok-shape.ensures.answer)

pub returns-clause-points : goal.returns-clause-points
returns-clause-points c = lent_points _ _ _ c.in_ok-points.ensures
