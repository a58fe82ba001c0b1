-- Rows 9 and 10, the length, then rows 1 to 6 of the points.
use Rattle.std.proofs.Common.{sym, ◌∙◌}
use Rattle.model.proofs.Answers.{refused_first}
use Rattle.refusal.proofs.Results.{refused_exit, answer_through}
use Rattle.layout.specs.Layout.{count}
use Rattle.rows.proofs.Passing.{ok_is}
use Rattle.sheet_text.proofs.Rows.{head_passed, head_refused, too_long, points_decide}
use Rattle.sheet_text.proofs.accept.Goals as goal

pub returns-in_err-file-clause-answer : goal.returns-in_err-file-clause-answer
returns-in_err-file-clause-answer c =
    refused_exit _ _ _ c.from_residual.ensures.1 ∙ sym (head_refused _ (refused_first _ _ (sym c.in_err-file.ensures)))

pub returns-then-bytes-gt-FILE_MOST-clause-answer :
    goal.returns-then-bytes-gt-FILE_MOST-clause-answer
returns-then-bytes-gt-FILE_MOST-clause-answer c =
    rw c.at.ensures (sym (too_long _ (head_passed c.in_ok-file.ensures).0 c.if-bytes-gt-FILE_MOST.true))

pub returns-clause-answer : goal.returns-clause-answer
returns-clause-answer c =
    let head = head_passed c.in_ok-file.ensures in
    answer_through _ (λ p. record { shape = p.1; count = count c.args.bytes.now }) _ _ _ c.new-2.ensures
    ∙ rw (c.code.ensures, head.1) (points_decide _ head.0 c.if-bytes-gt-FILE_MOST.false)

pub returns-clause-file : goal.returns-clause-file
returns-clause-file c = rw (head_passed c.in_ok-file.ensures).1 at (ok_is _ (λ p. p.0.bytes.now) _ _ _ c.new-2.ensures)
