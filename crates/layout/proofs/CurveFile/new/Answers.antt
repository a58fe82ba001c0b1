-- The check decides.
use Rattle.std.proofs.Common.{◌∙◌}
use Rattle.model.specs.Answer.{◌then◌}
use Rattle.refusal.proofs.Results.{row_exit}
use Rattle.layout.proofs.CurveFile.new.Goals as goal

pub returns-in_err-check : goal.returns-in_err-check
unfolding ◌then◌
returns-in_err-check c = row_exit _ _ _ _ c.from_residual.ensures.1 ∙ (rw (← c.in_err-check.ensures.answer))

pub returns : goal.returns
unfolding ◌then◌
returns c = rw (← c.in_ok-check.ensures.answer)
