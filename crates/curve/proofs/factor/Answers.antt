-- A refusal is that of the lists, or row 7's.
use Rattle.std.proofs.Common.{sym, ◌∙◌, ap, w32, to_z-of_z, rules}
use Rattle.model.specs.Answer.{gives}
use Rattle.model.specs.Read.{factor, read_answer}
use Rattle.refusal.proofs.Results.{refused_exit}
use Rattle.rows.proofs.Lists.{code_is, after_rows, refused_listed}
use Rattle.curve.proofs.factor.Goals as goal

pub returns-in_err-curve : goal.returns-in_err-curve
unfolding read_answer factor
returns-in_err-curve c =
    refused_exit _ _ _ c.from_residual.ensures.1 ∙ refused_listed _ _ _ _ _ _ c.in_err-curve.ensures.answer

pub returns-in_err-read : goal.returns-in_err-read
unfolding read_answer factor
returns-in_err-read c =
    let e = c.in_ok-curve.ensures.answer in
    refused_exit _ _ _ c.from_residual-in_err-read.ensures.1
    ∙ (rw (c.in_ok-curve.ensures.points, ← code_is _ _ _ _ _ e) at c.in_err-read.ensures) ∙ sym (after_rows _ _ _ _ _ e _)

pub returns : goal.returns
unfolding read_answer factor
returns c =
    let e = c.in_ok-curve.ensures.answer in
    ap gives (to_z-of_z {w = w32} {z = c.in_ok-read.field-0} (search rules))
    ∙ (rw (c.in_ok-curve.ensures.points, ← code_is _ _ _ _ _ e) at c.in_ok-read.ensures) ∙ sym (after_rows _ _ _ _ _ e _)
