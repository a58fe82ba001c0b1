-- Row 7, or the factor from the index of the segment read.
use Rattle.std.proofs.Common.{sym, ◌∙◌, w32, to_z-of_z}
use Rattle.model.specs.Answer.{row, ◌then◌}
use Rattle.model.specs.Read.{outside}
use Rattle.model.proofs.Rows.{row_passed, then_rest, gives_injective}
use Rattle.refusal.proofs.Results.{row_exit}
use Rattle.lookup.proofs.Areas.{refused_alike}
use Rattle.lookup.proofs.read.Goals as goal

pub returns-in_err-i : goal.returns-in_err-i
returns-in_err-i g c =
    row_exit _ 0 _ _ c.from_residual.ensures.1 ∙ sym (refused_alike _ _ _ (sym c.in_err-i.ensures))

pub factor_at-requires-clause-inside : goal.factor_at-requires-clause-inside
factor_at-requires-clause-inside g c = row_passed _ 7 0 _ (sym c.in_ok-i.ensures)

pub factor_at-requires-clause-index : goal.factor_at-requires-clause-index
factor_at-requires-clause-index g c =
    gives_injective (sym (then_rest (row _ 7 0) _ (sym c.in_ok-i.ensures)))

pub returns : goal.returns
unfolding row ◌then◌
returns g c =
    let factor = to_z-of_z {w = w32} {z = c.factor_at.result} (record { sfits = c.factor_at.type_inv }) ∙ c.factor_at.ensures in
    let within = row_passed (outside _ c.args.area) 7 0 _ (sym c.in_ok-i.ensures) in
    rw (within, factor)
