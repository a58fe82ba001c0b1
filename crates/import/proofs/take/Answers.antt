-- Rows 13, 11, 1 and 2, then what is left of them.
use Rattle.std.proofs.Common.{refl, sym, ◌∙◌}
use Rattle.model.specs.Answer.{filled}
use Rattle.model.proofs.Rows.{count_of_row_1}
use Rattle.refusal.proofs.Results.{refused_exit}
use Rattle.file.proofs.Filled.{after_refusal}
use Rattle.import.proofs.Taking.{passed, refused_by_13, refused_by_11, refused_by_1, refused_by_2, rows_left, own_room}
use Rattle.import.proofs.take.Goals as goal

pub returns-in_err-export-clause-answer : goal.returns-in_err-export-clause-answer
returns-in_err-export-clause-answer c =
    refused_exit _ _ _ c.from_residual.ensures.1 ∙ refused_by_13 _ _ _ _ _ c.in_err-export.ensures

pub returns-in_err-export-clause-areas : goal.returns-in_err-export-clause-areas
returns-in_err-export-clause-areas c = after_refusal _ (refused_exit _ _ _ c.from_residual.ensures.1)

pub returns-in_err-export-clause-values : goal.returns-in_err-export-clause-values
returns-in_err-export-clause-values c = after_refusal _ (refused_exit _ _ _ c.from_residual.ensures.1)

pub returns-in_err-export-clause-slopes : goal.returns-in_err-export-clause-slopes
returns-in_err-export-clause-slopes c = after_refusal _ (refused_exit _ _ _ c.from_residual.ensures.1)

pub returns-then-short_list-clause-answer : goal.returns-then-short_list-clause-answer
returns-then-short_list-clause-answer c =
    let k = passed _ c.in_ok-export.ensures in
    let short = rw (c.count-n.ensures, k.same) at (sym c.short_list.ensures ∙ c.if-short_list.true) in
    rw c.at.ensures (refused_by_11 _ _ _ _ _ k.multiple short)

pub returns-then-short_list-clause-areas : goal.returns-then-short_list-clause-areas
unfolding filled
returns-then-short_list-clause-areas c = refl

pub returns-then-short_list-clause-values : goal.returns-then-short_list-clause-values
unfolding filled
returns-then-short_list-clause-values c = refl

pub returns-then-short_list-clause-slopes : goal.returns-then-short_list-clause-slopes
unfolding filled
returns-then-short_list-clause-slopes c = refl

pub returns-then-bad_count-clause-answer : goal.returns-then-bad_count-clause-answer
returns-then-bad_count-clause-answer c =
    let k = passed _ c.in_ok-export.ensures in
    let lent = rw (c.count-n.ensures, k.same) at (sym c.short_list.ensures ∙ c.if-short_list.false) in
    let bad = rw (c.count-n.ensures, k.same) at (sym c.bad_count.ensures ∙ c.if-bad_count.true) in
    rw c.at-then-bad_count.ensures (refused_by_1 _ _ _ _ _ k.multiple lent bad)

pub returns-then-bad_count-clause-areas : goal.returns-then-bad_count-clause-areas
unfolding filled
returns-then-bad_count-clause-areas c = refl

pub returns-then-bad_count-clause-values : goal.returns-then-bad_count-clause-values
unfolding filled
returns-then-bad_count-clause-values c = refl

pub returns-then-bad_count-clause-slopes : goal.returns-then-bad_count-clause-slopes
unfolding filled
returns-then-bad_count-clause-slopes c = refl

pub returns-in_err-try_from-clause-answer : goal.returns-in_err-try_from-clause-answer
returns-in_err-try_from-clause-answer c =
    let k = passed _ c.in_ok-export.ensures in
    let lent = rw (c.count-n.ensures, k.same) at (sym c.short_list.ensures ∙ c.if-short_list.false) in
    let good = rw (c.count-n.ensures, k.same) at (sym c.bad_count.ensures ∙ c.if-bad_count.false) in
    refused_exit _ _ _ c.from_residual-in_err-try_from.ensures.1
    ∙ refused_by_2 _ _ _ _ _ k.multiple lent good c.in_err-try_from.ensures

pub returns-in_err-try_from-clause-areas : goal.returns-in_err-try_from-clause-areas
returns-in_err-try_from-clause-areas c = after_refusal _ (refused_exit _ _ _ c.from_residual-in_err-try_from.ensures.1)

pub returns-in_err-try_from-clause-values : goal.returns-in_err-try_from-clause-values
returns-in_err-try_from-clause-values c = after_refusal _ (refused_exit _ _ _ c.from_residual-in_err-try_from.ensures.1)

pub returns-in_err-try_from-clause-slopes : goal.returns-in_err-try_from-clause-slopes
returns-in_err-try_from-clause-slopes c = after_refusal _ (refused_exit _ _ _ c.from_residual-in_err-try_from.ensures.1)

pub put-requires : goal.put-requires
put-requires c =
    record {
      own = λ _. own_room (rw (← c.count-n.ensures) c.if-n-le-FEW.true);
      lent = rw c.count-n.ensures at (sym c.short_list.ensures ∙ c.if-short_list.false);
    }

pub put-requires-else-n-le-FEW : goal.put-requires-else-n-le-FEW
put-requires-else-n-le-FEW c =
    record {
      own = λ counted. own_room (count_of_row_1 _ counted).1;
      lent = rw c.count-n.ensures at (sym c.short_list.ensures ∙ c.if-short_list.false);
    }

pub returns-then-n-le-FEW-clause-answer : goal.returns-then-n-le-FEW-clause-answer
returns-then-n-le-FEW-clause-answer c =
    let k = passed _ c.in_ok-export.ensures in
    let lent = rw (c.count-n.ensures, k.same) at (sym c.short_list.ensures ∙ c.if-short_list.false) in
    rw k.same at c.put.ensures.answer ∙ rows_left _ _ _ _ _ k.multiple lent

pub returns-then-n-le-FEW-clause-areas : goal.returns-then-n-le-FEW-clause-areas
returns-then-n-le-FEW-clause-areas c = let k = passed _ c.in_ok-export.ensures in rw k.same at c.put.ensures.areas

pub returns-then-n-le-FEW-clause-values : goal.returns-then-n-le-FEW-clause-values
returns-then-n-le-FEW-clause-values c = let k = passed _ c.in_ok-export.ensures in rw k.same at c.put.ensures.values

pub returns-then-n-le-FEW-clause-slopes : goal.returns-then-n-le-FEW-clause-slopes
returns-then-n-le-FEW-clause-slopes c = let k = passed _ c.in_ok-export.ensures in rw k.same at c.put.ensures.slopes

pub returns-else-n-le-FEW-clause-answer : goal.returns-else-n-le-FEW-clause-answer
returns-else-n-le-FEW-clause-answer c =
    let k = passed _ c.in_ok-export.ensures in
    let lent = rw (c.count-n.ensures, k.same) at (sym c.short_list.ensures ∙ c.if-short_list.false) in
    rw k.same at c.put-else-n-le-FEW.ensures.answer ∙ rows_left _ _ _ _ _ k.multiple lent

pub returns-else-n-le-FEW-clause-areas : goal.returns-else-n-le-FEW-clause-areas
returns-else-n-le-FEW-clause-areas c = let k = passed _ c.in_ok-export.ensures in rw k.same at c.put-else-n-le-FEW.ensures.areas

pub returns-else-n-le-FEW-clause-values : goal.returns-else-n-le-FEW-clause-values
returns-else-n-le-FEW-clause-values c = let k = passed _ c.in_ok-export.ensures in rw k.same at c.put-else-n-le-FEW.ensures.values

pub returns-else-n-le-FEW-clause-slopes : goal.returns-else-n-le-FEW-clause-slopes
returns-else-n-le-FEW-clause-slopes c = let k = passed _ c.in_ok-export.ensures in rw k.same at c.put-else-n-le-FEW.ensures.slopes
