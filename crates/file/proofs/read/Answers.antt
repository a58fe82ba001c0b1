-- Rows 9 and 10, row 11, rows 1 to 6, or the points in the lists. A refusal leaves these as they were.
use Rattle.std.proofs.Common.{sym, ◌∙◌, arith}
use Rattle.refusal.proofs.Results.{refused_exit}
use Rattle.layout.proofs.Points.{size_of_points}
use Rattle.file.proofs.Room.{room_of_row_11}
use Rattle.file.proofs.Opening.{points_in_list, lists_left, refused_by_head, refused_by_room, refused_by_points, opened}
use Rattle.file.proofs.read.Goals as goal

pub returns-in_err-check : goal.returns-in_err-check
returns-in_err-check c =
    lists_left _ _ _ _ _ _ _ (refused_exit _ _ _ c.from_residual.ensures.1)
    (refused_by_head _ _ _ _ c.in_err-check.ensures.answer)

pub returns-then-short_list : goal.returns-then-short_list
returns-then-short_list c =
    let s = rw c.count-n.ensures at (sym c.short_list.ensures ∙ c.if-short_list.true) in
    lists_left _ _ _ _ _ _ _ (rw c.at.ensures) (refused_by_room _ _ _ _ c.in_ok-check.ensures.answer s)

pub returns-in_err-shape : goal.returns-in_err-shape
returns-in_err-shape c =
    let s = rw c.count-n.ensures at (sym c.short_list.ensures ∙ c.if-short_list.false) in
    lists_left _ _ _ _ _ _ _ (refused_exit _ _ _ c.from_residual-in_err-shape.ensures.1)
    (refused_by_points _ _ _ _ c.in_ok-check.ensures.answer s c.code.ensures _ c.in_err-shape.ensures.answer)

pub fill-requires : goal.fill-requires
fill-requires c = room_of_row_11 (rw c.count-n.ensures at (sym c.short_list.ensures ∙ c.if-short_list.false))

pub overflow_cast-result : goal.overflow_cast-result
overflow_cast-result c =
    record { fits = omega (arith, c.count-n.ensures, size_of_points c.args.bytes.now, c.type_inv.bytes 6) }

pub returns : goal.returns
returns c =
    let s = rw c.count-n.ensures at (sym c.short_list.ensures ∙ c.if-short_list.false) in
    let e = c.in_ok-check.ensures.answer in
    record {
      answer = opened _ _ _ _ e s c.code.ensures c.in_ok-shape.ensures.answer c.count-n.ensures;
      areas = points_in_list _ (λ p. p.area) _ _ c.fill.ensures.areas;
      values = points_in_list _ (λ p. p.value) _ _ c.fill.ensures.values;
      slopes = points_in_list _ (λ p. p.slope) _ _ c.fill.ensures.slopes;
    }
