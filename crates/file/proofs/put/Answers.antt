-- Row 1 of the lists and rows 1 to 6, row 12, or the file. A refusal leaves the buffer as it was.
use Rattle.std.proofs.Common.{arith}
use Rattle.refusal.proofs.Results.{refused_exit}
use Rattle.rows.proofs.Lists.{count_most, size_listed}
use Rattle.file.proofs.Writing.{file_in_buffer, buffer_left, refused_by_curve, refused_by_buffer, written}
use Rattle.file.proofs.put.Goals as goal

pub returns-in_err-curve : goal.returns-in_err-curve
returns-in_err-curve c =
    buffer_left _ _ _ _ _ _ (refused_exit _ _ _ c.from_residual.ensures.1)
    (refused_by_curve _ _ _ _ _ c.in_err-curve.ensures.answer)

pub overflow_mul-size : goal.overflow_mul-size
overflow_mul-size c = record { fits = omega (arith, count_most _ _ _ _ _ c.in_ok-curve.ensures.answer) }

pub overflow_add-size : goal.overflow_add-size
overflow_add-size c = record { fits = omega (arith, count_most _ _ _ _ _ c.in_ok-curve.ensures.answer) }

pub returns-then-out-size : goal.returns-then-out-size
returns-then-out-size c =
    buffer_left _ _ _ _ _ _ (rw c.at.ensures) (refused_by_buffer _ _ _ _ _ c.in_ok-curve.ensures.answer c.if-out-size.true)

pub encode-requires : goal.encode-requires
encode-requires c =
    let most = count_most _ _ _ _ _ c.in_ok-curve.ensures.answer in
    let size = size_listed _ _ _ _ _ c.in_ok-curve.ensures.answer in
    rw c.in_ok-curve.ensures.points (record { count = omega arith; room = omega arith })

pub overflow_cast-result : goal.overflow_cast-result
overflow_cast-result c = record { fits = omega (arith, count_most _ _ _ _ _ c.in_ok-curve.ensures.answer) }

pub returns : goal.returns
returns c =
    record {
      answer = written _ _ _ _ _ c.in_ok-curve.ensures.answer c.if-out-size.false;
      out = file_in_buffer _ _ _ _ c.in_ok-curve.ensures.answer _ _
          (rw c.in_ok-curve.ensures.points at c.encode.ensures);
    }
