-- Row 1 of the lists, then the rows of their points.
use Rattle.std.proofs.Common.{sym, ◌∙◌}
use Rattle.model.specs.Answer.{row, ◌then◌}
use Rattle.model.specs.Points.{points}
use Rattle.model.specs.Check.{on_lists, curve_rows}
use Rattle.model.proofs.Rows.{row_refused}
use Rattle.refusal.proofs.Results.{refused_exit, answer_through}
use Rattle.rows.proofs.Passing.{ok_is}
use Rattle.rows.proofs.Lists.{lent_alike, lent_points}
use Rattle.rows.proofs.Curve+Lists.of_lists.Goals as goal

pub returns-in_err-new-clause-answer : goal.returns-in_err-new-clause-answer
unfolding on_lists row ◌then◌
returns-in_err-new-clause-answer c =
    let k = row_refused _ 1 0 _ (sym c.in_err-new.ensures) in
    refused_exit _ _ _ c.from_residual.ensures.1 ∙ rw (k.0, k.1)

pub returns-clause-answer : goal.returns-clause-answer
unfolding on_lists row ◌then◌
returns-clause-answer c =
    let e = c.in_ok-new.ensures in
    rw (lent_alike _ _ _ e, ← lent_points _ _ _ e) (answer_through _ (λ p. p.1) _ _ _ c.new-2.ensures)

pub returns-clause-points : goal.returns-clause-points
returns-clause-points c =
    rw (← lent_points _ _ _ c.in_ok-new.ensures)
    (ok_is _ (λ p. points p.0.areas.now p.0.values.now p.0.slopes.now) (curve_rows _ _) _ _ c.new-2.ensures)
