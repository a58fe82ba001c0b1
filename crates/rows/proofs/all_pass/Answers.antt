-- The first point passes.
use Rattle.std.proofs.Common.{sym, ◌∙◌, arith}
use Rattle.refusal.proofs.Results.{gives_no_err}
use Rattle.rows.proofs.Passing.{passing_starts}
use Rattle.rows.proofs.all_pass.Goals as goal

pub rest_passes-requires-clause-passing : goal.rest_passes-requires-clause-passing
rest_passes-requires-clause-passing g c =
    let e = sym (c.check.ensures 0) ∙ gives_no_err _ 0 (sym c.is_err.ensures.value ∙ c.if-is_err.false) in
    passing_starts _ _ (omega arith) (rw c.point.ensures at e)
