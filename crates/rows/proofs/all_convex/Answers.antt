-- Row 6 under 2 refuses nothing exactly where every segment passes the convex test.
use Rattle.std.proofs.Common.{◌≡◌, refl, ◌∙◌, ap}
use Rattle.std.specs.Prelude.{Result, Ok, Err, is_ok}
use Rattle.model.specs.Inner.{gives_nothing}
use Rattle.model.proofs.AsRead.{convex_rows}
use Rattle.refusal.specs.declared.Refusal.{Refusal}
use Rattle.refusal.specs.Refusal.{checked}
use Rattle.rows.proofs.all_convex.Goals as goal

gives_nothing_of_ok : (r : Result (Unit {0}) Refusal) → is_ok r ≡ gives_nothing (checked r)
gives_nothing_of_ok (Ok u) = refl
gives_nothing_of_ok (Err refusal) = refl

pub returns : goal.returns
returns g c = c.is_ok.ensures.value ∙ gives_nothing_of_ok _ ∙ ap gives_nothing c.check_segments.ensures ∙ convex_rows _
