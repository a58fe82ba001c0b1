-- `export_fill_slopes::curve_fill_slopes` meets its contract, by what the filling promises.
-- Assumes nothing.
use mathlib.Core.Path.{sym, ◌∙◌, ap}
use lib.IntN.{pos}
use mir.Facts.{to_z-of_z}
use Rattle.slopes.specs.Calls.{supplied_answer}
use Rattle.exports.proofs.Numbers.{c_refused, c_given}
use Rattle.export_fill_slopes.proofs.curve_fill_slopes.Goals as goal

pub returns-in-Refused-clause-answer : goal.returns-in-Refused-clause-answer
returns-in-Refused-clause-answer c =
    rw (to_z-of_z (record { sfits = c.refusal.type_inv }), c.refusal.ensures)
    (c_refused pos (sym c.fill_slopes.ensures.answer ∙ ap supplied_answer c.in-Refused.is))

pub returns-in-Points-clause-answer : goal.returns-in-Points-clause-answer
returns-in-Points-clause-answer c =
    rw (to_z-of_z (record { sfits = c.from.type_inv }), c.from.ensures)
    (c_given pos (sym c.fill_slopes.ensures.answer ∙ ap supplied_answer c.in-Points.is))
