-- Row 9, then row 10.
use Rattle.std.proofs.Common.{length, sym, ◌∙◌, arith, eq-eqb, ne_eqb}
use Rattle.model.specs.Answer.{row, ◌then◌}
use Rattle.layout.specs.Layout.{point_offset, count}
use Rattle.layout.specs.Head.{bad_size, head_rows}
use Rattle.layout.proofs.Heads.{head_is_there}
use Rattle.layout.proofs.check.Goals as goal

pub returns-then-bad_head-clause-answer : goal.returns-then-bad_head-clause-answer
unfolding head_rows row ◌then◌
returns-then-bad_head-clause-answer c = rw (sym c.bad_head.ensures ∙ c.if-bad_head.true)

pub bounds-bytes-6 : goal.bounds-bytes-6
bounds-bytes-6 c = omega (arith, head_is_there _ (sym c.bad_head.ensures ∙ c.if-bad_head.false))

pub returns-then-bytes-from-clause-answer : goal.returns-then-bytes-from-clause-answer
unfolding head_rows bad_size row ◌then◌
returns-then-bytes-from-clause-answer c =
    let bytes = c.args.bytes.now in
    let other = ne_eqb (length bytes) (point_offset (count bytes)) (λ e. omega (arith, c.from.ensures)) in
    rw (sym c.bad_head.ensures ∙ c.if-bad_head.false, other)

pub returns-clause-answer : goal.returns-clause-answer
unfolding head_rows bad_size row ◌then◌
returns-clause-answer c =
    rw (sym c.bad_head.ensures ∙ c.if-bad_head.false, eq-eqb _ (point_offset _) (rw c.from.ensures at c.if-bytes-from.false))
