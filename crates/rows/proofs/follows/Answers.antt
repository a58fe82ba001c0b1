-- Rows 3 to 5 of the second point decide, then row 6.
use Rattle.std.proofs.Common.{sym, ◌∙◌}
use Rattle.model.proofs.Rows.{passed, neighbours}
use Rattle.refusal.proofs.Results.{gives_no_err}
use Rattle.rows.proofs.follows.Goals as goal

pub invariant_of-has_shape : goal.invariant_of-has_shape
invariant_of-has_shape c =
    let e = sym (c.check.ensures 0) ∙ gives_no_err _ 0 (sym c.is_err.ensures.value ∙ c.if-is_err.false) in
    record { neighbours = neighbours c.requires (passed 0 _ _ _ e) }

pub returns : goal.returns
returns c = λ e.
    record {
      point_passes = λ i. sym (c.check.ensures i) ∙ gives_no_err _ i (sym c.is_err.ensures.value ∙ c.if-is_err.false);
      segment_passes = sym c.has_shape.ensures ∙ e;
    }
