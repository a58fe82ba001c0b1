-- Each step refuses by its row and leaves the scratch as found; after them the records are copied, and the factor is the reading.
use Rattle.std.proofs.Common.{◌∙◌, arith}
use Rattle.layout.proofs.Points.{size_of_points}
use Rattle.desk_answer.proofs.Steps.{by_head, by_room, by_curve, by_area, by_reading}
use Rattle.desk.proofs.Records.{written}
use Rattle.desk.proofs.read.Goals as goal

pub returns-in_err-check : goal.returns-in_err-check
returns-in_err-check c = by_head _ c.from_residual.ensures.1 c.in_err-check.ensures.answer

pub returns-then-scratch-count : goal.returns-then-scratch-count
returns-then-scratch-count c = by_room c.in_ok-check.ensures.answer (omega (arith, size_of_points)) c.at.ensures

pub returns-in_err-shape : goal.returns-in_err-shape
returns-in_err-shape c =
    by_curve c.in_ok-check.ensures.answer (omega (arith, size_of_points)) c.code.ensures
    _ _ c.from_residual-in_err-shape.ensures.1 c.in_err-shape.ensures.answer

pub returns-in_err-i : goal.returns-in_err-i
returns-in_err-i c =
    by_area c.in_ok-check.ensures.answer (omega (arith, size_of_points)) c.code.ensures _ c.in_ok-shape.ensures.answer
    _ c.from_residual-in_err-i.ensures.1 c.in_err-i.ensures

pub returns : goal.returns
returns c =
    let p = c.in_ok-check.ensures in
    by_reading p.answer (omega (arith, size_of_points)) c.code.ensures c.in_ok-shape.ensures.answer c.in_ok-i.ensures
    c.factor_at.ensures (record { sfits = c.factor_at.type_inv }) (c.copy.ensures ∙ written _ p.size _)
