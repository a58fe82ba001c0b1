-- What is finite and stays as it is, truncated, is whole.
use Rattle.std.proofs.Common.{◌∙◌, sym, w32, to_z-of_z}
use Rattle.std.proofs.lemmas.Float.{T_from_true}
use Rattle.binary64.proofs.Wholes.{taken, not_finite, not_whole}
use Rattle.binary64.proofs.truncated_number.Goals as goal
use Rattle.binary64.proofs.truncated_number.Goals.{else-is_finite-via-then-is_finite+else-trunc-x}
use Rattle.binary64.proofs.truncated_number.Goals.{else-is_finite-via-else-is_finite}

pub returns-then-trunc-x : goal.returns-then-trunc-x
returns-then-trunc-x c =
    let x = c.args.x in
    let z = c.saturating_f64_to_i32 in
    rw (to_z-of_z {w = w32} {z = z.result} (record { sfits = z.type_inv }), z.ensures)
    (taken x (T_from_true _ c.well_formed.0.1) (sym c.is_finite.ensures ∙ c.if-is_finite.true)
    (rw c.trunc.ensures at c.if-trunc-x.true))

pub returns : goal.returns
returns c =
    elim c.else-is_finite.branch [
      | else-is_finite-via-then-is_finite+else-trunc-x w ↦
          not_whole c.args.x (T_from_true _ c.well_formed.0.1) (rw w.trunc.ensures at w.if-trunc-x.false)
      | else-is_finite-via-else-is_finite w ↦
          not_finite c.args.x (sym c.is_finite.ensures ∙ w.if-is_finite.false)
    ]
