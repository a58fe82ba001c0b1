-- What the pass accepts is accepted; of another curve each row is asked.
use Rattle.model.specs.Answer.{◌then◌}
use Rattle.rows.proofs.Passing.{accepted, accepted_result}
use Rattle.rows.proofs.check.Goals as goal

pub returns-in-Some-clause-answer : goal.returns-in-Some-clause-answer
unfolding ◌then◌
returns-in-Some-clause-answer g c =
    let (code_is, e) = c.in-Some.ensures in
    rw (code_is, (accepted _ _ e).none_applies)

pub returns-in-None-clause-accepted : goal.returns-in-None-clause-accepted
returns-in-None-clause-accepted g c = accepted_result _ _ _ c.first_refusal.ensures
