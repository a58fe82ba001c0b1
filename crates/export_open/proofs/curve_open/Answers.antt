-- `export_open::curve_open` meets its contract, by what Open promises.
-- Assumes nothing.
use mathlib.Core.Path.{sym, ◌∙◌, ap}
use native.Mathlib.Omega.{arith}
use mir.Facts.{to_z-of_z}
use Rattle.std.proofs.lemmas.Int.{ints}
use Rattle.shape.proofs.Codes.{code_most}
use Rattle.file.specs.Calls.{opened_answer}
use Rattle.exports.specs.Exports.{c_shape_and_count}
use Rattle.exports.proofs.Numbers.{c_refused, c_given}
use Rattle.export_open.proofs.curve_open.Goals as goal

pub returns-in-Refused-clause-answer : goal.returns-in-Refused-clause-answer
returns-in-Refused-clause-answer c =
    rw (to_z-of_z (record { sfits = c.refusal.type_inv }), c.refusal.ensures)
    (c_refused c_shape_and_count (sym c.«open».ensures.answer ∙ ap opened_answer c.in-Refused.is))

pub returns-in-Curve-clause-answer : goal.returns-in-Curve-clause-answer
unfolding c_shape_and_count
returns-in-Curve-clause-answer c = grind (arith, ints, c_given, code_most)
