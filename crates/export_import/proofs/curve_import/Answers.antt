-- `export_import::curve_import` meets its contract, by what Import promises.
-- Assumes nothing.
use mathlib.Core.Path.{sym, ◌∙◌, ap}
use lib.IntN.{pos}
use mir.Facts.{to_z-of_z}
use Rattle.import.specs.Calls.{imported_answer}
use Rattle.exports.proofs.Numbers.{c_refused, c_given}
use Rattle.export_import.proofs.curve_import.Goals as goal

pub returns-in-Refused-clause-answer : goal.returns-in-Refused-clause-answer
returns-in-Refused-clause-answer c =
    rw (to_z-of_z (record { sfits = c.refusal.type_inv }), c.refusal.ensures)
    (c_refused pos (sym c.«import».ensures.answer ∙ ap imported_answer c.in-Refused.is))

pub returns-in-Points-clause-answer : goal.returns-in-Points-clause-answer
returns-in-Points-clause-answer c =
    rw (to_z-of_z (record { sfits = c.from.type_inv }), c.from.ensures)
    (c_given pos (sym c.«import».ensures.answer ∙ ap imported_answer c.in-Points.is))
