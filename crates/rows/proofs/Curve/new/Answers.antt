-- The check decides.
use Rattle.std.proofs.Common.{sym, ◌∙◌}
use Rattle.model.specs.Answer.{gives, ◌then◌}
use Rattle.model.specs.Check.{curve_rows}
use Rattle.model.proofs.Rows.{gives_injective, then_first, then_rest}
use Rattle.model.proofs.Answers.{then_refused, refused_first}
use Rattle.refusal.proofs.Results.{refused_exit}
use Rattle.rows.proofs.Curve.new.Goals as goal

pub returns-in_err-shape : goal.returns-in_err-shape
returns-in_err-shape g c =
    refused_exit _ _ _ c.from_residual.ensures.1
    ∙ sym (then_refused _ _ (refused_first _ _ (sym c.in_err-shape.ensures.answer)))

pub returns : goal.returns
unfolding ◌then◌
returns g c =
    let e = sym c.in_ok-shape.ensures.answer in
    let code_is = gives_injective (then_rest (curve_rows _ _) (gives _) e) in
    rw (then_first (curve_rows _ _) (gives _) e, ← code_is)
