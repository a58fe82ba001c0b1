-- Rows 1 and 2 are passed, and the pass finds nothing.
use Rattle.std.proofs.Common.{sym, ◌∙◌}
use Rattle.rows.proofs.Passing.{count_passed, code_passed}
use Rattle.rows.proofs.accepted.Goals as goal

pub passes-requires : goal.passes-requires
passes-requires g c = count_passed _ (sym (rw c.count.ensures at c.bad_count.ensures) ∙ c.if-bad_count.false)

pub returns : goal.returns
returns g c =
    let k = code_passed c.in-Ok.ensures in
    (k.1, rw k.1 at (c.passes.ensures c.if-not-passes.false))
