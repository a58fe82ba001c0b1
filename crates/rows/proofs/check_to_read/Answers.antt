-- The pass decides where it accepts; of another curve rows 1 to 6 and then the rule used are asked.
use Rattle.std.proofs.Common.{sym, ◌∙◌}
use Rattle.model.specs.Answer.{gives, ◌then◌}
use Rattle.model.specs.Check.{curve_rows}
use Rattle.model.proofs.AsRead.{used_accepted}
use Rattle.model.proofs.Rows.{gives_injective, then_first, then_rest}
use Rattle.model.proofs.Answers.{then_refused, refused_first}
use Rattle.refusal.proofs.Results.{refused_exit}
use Rattle.rows.proofs.Passing.{accepted, accepts_of, count_passed}
use Rattle.rows.proofs.check_to_read.Goals as goal

pub rising_pass-requires : goal.rising_pass-requires
rising_pass-requires g c =
    count_passed _ (sym (rw c.count.ensures at c.if-not-bad_count.ensures))

pub returns-in-Some-clause-answer : goal.returns-in-Some-clause-answer
unfolding ◌then◌
returns-in-Some-clause-answer g c =
    let (a, u) = c.in-Some.ensures in
    rw (c.if-code.true ∙ c.code.ensures, (accepted _ _ a).none_applies, u)

pub returns-in-Some-clause-accepted : goal.returns-in-Some-clause-accepted
returns-in-Some-clause-accepted g c =
    let (a, u) = c.in-Some.ensures in
    rw u (accepts_of _ _ (used_accepted (accepted _ _ a)).none_applies)

pub returns-in_err-shape-clause-answer : goal.returns-in_err-shape-clause-answer
returns-in_err-shape-clause-answer g c =
    refused_exit _ _ _ c.from_residual.ensures.1
    ∙ sym (then_refused _ _ (refused_first _ _ (sym c.in_err-shape.ensures.answer)))

pub returns-clause-answer : goal.returns-clause-answer
unfolding ◌then◌
returns-clause-answer g c =
    let e = sym c.in_ok-shape.ensures.answer in
    let code_is = gives_injective (then_rest (curve_rows _ _) (gives _) e) in
    rw (then_first (curve_rows _ _) (gives _) e, c.used_shape.ensures.code, ← code_is)
