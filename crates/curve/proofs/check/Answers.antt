-- A refusal is that of the lists; a curve has a segment less than areas.
use Rattle.std.proofs.Common.{ℕ, ◌-◌, sym, ◌∙◌, ap, arith}
use Rattle.model.specs.Answer.{gives}
use Rattle.model.specs.Check.{check_answer}
use Rattle.model.proofs.Indexed.{segments_length}
use Rattle.rows.proofs.Lists.{count_least, count_most, size_listed, after_rows, refused_listed}
use Rattle.curve.proofs.check.Goals as goal

pub overflow_sub-result : goal.overflow_sub-result
overflow_sub-result c = omega (arith, count_least _ _ _ _ _ c.in-Ok.ensures.answer)

pub overflow_cast-result : goal.overflow_cast-result
overflow_cast-result c = record { fits = omega (arith, count_most _ _ _ _ _ c.in-Ok.ensures.answer) }

pub returns-in-Ok : goal.returns-in-Ok
unfolding check_answer
returns-in-Ok c =
    let e = c.in-Ok.ensures.answer in
    sym (after_rows _ _ _ _ _ e _ ∙ ap gives (segments_length _ ∙ ap (λ (n : ℕ). n - 1) (size_listed _ _ _ _ _ e)))

pub returns-in-Err : goal.returns-in-Err
unfolding check_answer
returns-in-Err c = refused_listed _ _ _ _ _ _ c.in-Err.ensures.answer
