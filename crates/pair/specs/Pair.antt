-- Document 01: what Pair answers.
-- Assumes nothing.
use Rattle.std.specs.Prelude.{ℕ, List, ℤ, ◌-ℤ◌}
use Rattle.model.specs.Answer.{Answer, gives, row, ◌then◌}
use Rattle.model.specs.Points.{Point}
use Rattle.model.specs.Check.{curve_rows}
use Rattle.model.specs.Read.{outside, factor}

-- the factors at the form area and the plan area, and the plan factor less the form factor
pub record Factors : Type 0 where
  pub form : ℤ
  pub plan : ℤ
  pub difference : ℤ

unfoldable pub factors : ℤ → ℤ → Factors
factors form plan = record { form = form; plan = plan; difference = plan -ℤ form }

-- rows 1 to 6, then 7: place 0 for the form area, 1 for the plan area, form first
unfoldable pub pair_answer : List Point → ℕ → ℕ → ℕ → Answer Factors
pair_answer ps code form plan =
    curve_rows ps code then row (outside ps form) 7 0 then row (outside ps plan) 7 1
    then gives (factors (factor ps code form) (factor ps code plan))
