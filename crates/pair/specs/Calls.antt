-- The call's answer in document 01's numbers and values.
-- Assumes nothing.
use Rattle.model.specs.Answer.{Answer, gives, refused}
use Rattle.refusal.specs.Refusal.{number_of}
use Rattle.pair.specs.Pair as spec
use Rattle.pair.specs.declared.Pair.{Pair}
use Rattle.pair.specs.declared.Pair.TheVariants.{Factors, Refused}

abbrev pub factors_answer : Pair → Answer spec.Factors
factors_answer (Factors form plan difference) = gives (record { form = form; plan = plan; difference = difference })
factors_answer (Refused row place) = refused (number_of row) place
