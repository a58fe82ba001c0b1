-- Row 1, then 2; then the points, then the segments.
use Rattle.std.proofs.Common.{sym, ◌∙◌}
use Rattle.model.specs.Answer.{row, ◌then◌}
use Rattle.model.specs.Check.{curve_rows}
use Rattle.refusal.proofs.Results.{refused_exit}
use Rattle.shape.proofs.Tests.{code_of_shape}
use Rattle.rows.proofs.Passing.{count_passed, code_passed, curve_of_rows}
use Rattle.rows.proofs.Passing.{refused_by_code, refused_by_points, refused_by_segments}
use Rattle.rows.proofs.first_refusal.Goals as goal

pub returns-then-bad_count : goal.returns-then-bad_count
unfolding curve_rows row ◌then◌
returns-then-bad_count g c =
    rw (c.at.ensures, sym (rw c.count.ensures at c.bad_count.ensures) ∙ c.if-bad_count.true)

pub returns-in_err-shape : goal.returns-in_err-shape
returns-in_err-shape g c =
    let n = sym (rw c.count.ensures at c.bad_count.ensures) ∙ c.if-bad_count.false in
    refused_exit _ _ _ c.from_residual.ensures.1 ∙ refused_by_code _ _ _ n c.in_err-shape.ensures

pub check_points-requires : goal.check_points-requires
check_points-requires g c =
    let n = sym (rw c.count.ensures at c.bad_count.ensures) ∙ c.if-bad_count.false in
    (count_passed _ n).most

pub returns-in_err-check_points : goal.returns-in_err-check_points
returns-in_err-check_points g c =
    let n = sym (rw c.count.ensures at c.bad_count.ensures) ∙ c.if-bad_count.false in
    let k = code_passed c.in_ok-shape.ensures in
    refused_exit _ _ _ c.from_residual-in_err-check_points.ensures.1
    ∙ refused_by_points _ _ _ n k.0 c.in_err-check_points.ensures

pub check_segments-requires : goal.check_segments-requires
check_segments-requires g c =
    let n = sym (rw c.count.ensures at c.bad_count.ensures) ∙ c.if-bad_count.false in
    record { count = count_passed _ n; points_pass = sym c.in_ok-check_points.ensures }

pub returns-in_err-check_segments : goal.returns-in_err-check_segments
returns-in_err-check_segments g c =
    let n = sym (rw c.count.ensures at c.bad_count.ensures) ∙ c.if-bad_count.false in
    let k = code_passed c.in_ok-shape.ensures in
    refused_exit _ _ _ c.from_residual-in_err-check_segments.ensures.1
    ∙ refused_by_segments _ _ _ n k.0 (sym c.in_ok-check_points.ensures) (rw k.1 at c.in_err-check_segments.ensures)

pub returns : goal.returns
unfolding ◌then◌
returns g c =
    let n = sym (rw c.count.ensures at c.bad_count.ensures) ∙ c.if-bad_count.false in
    let k = code_passed c.in_ok-shape.ensures in
    let e =
    curve_of_rows _ _ (count_passed _ n) (code_of_shape c.in_ok-shape.shape)
    (sym c.in_ok-check_points.ensures) (sym c.in_ok-check_segments.ensures)
    in
    rw (← k.1, e)
