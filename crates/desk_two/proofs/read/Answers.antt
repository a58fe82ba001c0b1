-- Each step refuses by its row and leaves the scratch as found; after them the two records of the segment read are copied, and
-- the factor is the reading.
use Rattle.std.proofs.Common.{◌∙◌, arith}
use Rattle.desk_answer.proofs.Steps.{index, by_head, by_room, by_curve, by_area, by_reading}
use Rattle.desk_two.proofs.Records.{records_fit, written}
use Rattle.desk_two.proofs.read.Goals as goal

pub returns-in_err-check : goal.returns-in_err-check
returns-in_err-check c = by_head _ c.from_residual.ensures.1 c.in_err-check.ensures.answer

pub returns-then-scratch : goal.returns-then-scratch
returns-then-scratch c = by_room c.in_ok-check.ensures.answer c.if-scratch.true c.at.ensures

pub returns-in_err-shape : goal.returns-in_err-shape
returns-in_err-shape c =
    by_curve c.in_ok-check.ensures.answer c.if-scratch.false c.code.ensures
    _ _ c.from_residual-in_err-shape.ensures.1 c.in_err-shape.ensures.answer

pub returns-in_err-i : goal.returns-in_err-i
returns-in_err-i c =
    by_area c.in_ok-check.ensures.answer c.if-scratch.false c.code.ensures _ c.in_ok-shape.ensures.answer
    _ c.from_residual-in_err-i.ensures.1 c.in_err-i.ensures

pub returns : goal.returns
returns c =
    let p = c.in_ok-check.ensures in
    let accepted = c.in_ok-shape.ensures.accepted in
    let fit = records_fit _ c.args.area _ p.size accepted in
    let copy = c.copy_block.ensures ∙ written _ _ _ p.size accepted _ _ (omega (arith, index _ _ c.in_ok-i.ensures, fit)) in
    by_reading p.answer c.if-scratch.false c.code.ensures c.in_ok-shape.ensures.answer c.in_ok-i.ensures c.factor_at.ensures
    (record { sfits = c.factor_at.type_inv }) copy
