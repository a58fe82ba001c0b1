-- `export_write::curve_write` meets its contract, by what Write promises.
-- Assumes nothing.
use mathlib.Core.Path.{sym, ◌∙◌, ap}
use lib.IntN.{pos}
use mir.Facts.{to_z-of_z}
use Rattle.file.specs.Calls.{written_answer}
use Rattle.exports.proofs.Numbers.{c_refused, c_given}
use Rattle.export_write.proofs.curve_write.Goals as goal

pub returns-in-Refused-clause-answer : goal.returns-in-Refused-clause-answer
returns-in-Refused-clause-answer c =
    rw (to_z-of_z (record { sfits = c.refusal.type_inv }), c.refusal.ensures)
    (c_refused pos (sym c.write.ensures.answer ∙ ap written_answer c.in-Refused.is))

pub returns-in-Length-clause-answer : goal.returns-in-Length-clause-answer
returns-in-Length-clause-answer c =
    rw (to_z-of_z (record { sfits = c.from.type_inv }), c.from.ensures)
    (c_given pos (sym c.write.ensures.answer ∙ ap written_answer c.in-Length.is))
