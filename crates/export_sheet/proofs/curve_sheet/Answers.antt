-- `export_sheet::curve_sheet` meets its contract, by what Sheet promises.
-- Assumes nothing.
use mathlib.Core.Path.{sym, ◌∙◌, ap}
use lib.IntN.{pos}
use mir.Facts.{to_z-of_z}
use Rattle.curve.specs.Calls.{filled_answer}
use Rattle.exports.proofs.Numbers.{c_refused, c_given}
use Rattle.export_sheet.proofs.curve_sheet.Goals as goal

pub returns-in-Refused-clause-answer : goal.returns-in-Refused-clause-answer
returns-in-Refused-clause-answer c =
    rw (to_z-of_z (record { sfits = c.refusal.type_inv }), c.refusal.ensures)
    (c_refused pos (sym c.sheet.ensures.answer ∙ ap filled_answer c.in-Refused.is))

pub returns-in-Entries-clause-answer : goal.returns-in-Entries-clause-answer
returns-in-Entries-clause-answer c =
    rw (to_z-of_z (record { sfits = c.from.type_inv }), c.from.ensures)
    (c_given pos (sym c.sheet.ensures.answer ∙ ap filled_answer c.in-Entries.is))
