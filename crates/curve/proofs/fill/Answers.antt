-- A refusal is that of the lists, row 8's or row 7's, and leaves the list as it was.
use Rattle.std.proofs.Common.{◌≡◌, ℕ, length, ◌∙◌, ap, arith, rules}
use Rattle.model.specs.Answer.{gives}
use Rattle.model.specs.Read.{factor}
use Rattle.model.specs.Sheet.{sheet_answer, sheet_list}
use Rattle.refusal.proofs.Results.{refused_exit}
use Rattle.rows.proofs.Lists.{code_is, refused_listed}
use Rattle.curve.proofs.Entries.{refused_sheet, all_pass}
use Rattle.curve.proofs.fill.Goals as goal

pub returns-in_err-curve-clause-answer : goal.returns-in_err-curve-clause-answer
unfolding sheet_answer
returns-in_err-curve-clause-answer c =
    refused_exit _ _ _ c.from_residual.ensures.1 ∙ refused_listed _ _ _ _ _ _ c.in_err-curve.ensures.answer

pub returns-in_err-curve-clause-list : goal.returns-in_err-curve-clause-list
unfolding sheet_list
returns-in_err-curve-clause-list c = let e = refused_exit (λ (n : ℕ). n) _ _ c.from_residual.ensures.1 in rw e

pub returns-in_err-check-clause-answer : goal.returns-in_err-check-clause-answer
unfolding sheet_answer
returns-in_err-check-clause-answer c =
    refused_exit _ _ _ c.from_residual-in_err-check.ensures.1
    ∙ refused_sheet _ _ _ _ _ c.in_ok-curve.ensures.answer _ _ _ (rw c.in_ok-curve.ensures.points at c.in_err-check.ensures)

pub returns-in_err-check-clause-list : goal.returns-in_err-check-clause-list
unfolding sheet_list
returns-in_err-check-clause-list c = let e = refused_exit (λ (n : ℕ). n) _ _ c.from_residual-in_err-check.ensures.1 in rw e

pub fill-requires : goal.fill-requires
fill-requires c =
    rw c.in_ok-curve.ensures.points
    (all_pass _ _ _ _ _ c.in_ok-curve.ensures.answer _ _ _ (rw c.in_ok-curve.ensures.points at c.in_ok-check.ensures)).inside

pub overflow_cast-result : goal.overflow_cast-result
overflow_cast-result c =
    let p = rw c.in_ok-curve.ensures.points at c.in_ok-check.ensures in
    record { fits = omega (arith, (all_pass _ _ _ _ _ c.in_ok-curve.ensures.answer _ _ _ p).most) }

pub returns-clause-answer : goal.returns-clause-answer
unfolding sheet_answer
returns-clause-answer c =
    let p = rw c.in_ok-curve.ensures.points at c.in_ok-check.ensures in
    let a = all_pass _ _ _ _ _ c.in_ok-curve.ensures.answer _ _ _ p in
    let same : length c.fill.new.out ≡ length c.args.out.now = search rules in
    ap gives (omega (arith, same, a.most)) ∙ a.answer

pub returns-clause-list : goal.returns-clause-list
unfolding sheet_list factor
returns-clause-list c =
    let k = c.args in
    let n = length k.out.now in
    let same : length c.fill.new.out ≡ n = search rules in
    rw same (rw (c.in_ok-curve.ensures.points, ← code_is _ _ _ _ _ c.in_ok-curve.ensures.answer) at c.fill.ensures)
