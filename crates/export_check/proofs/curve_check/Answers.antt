-- `export_check::curve_check` meets its contract, by what Check promises.
-- Assumes nothing.
use mathlib.Core.Path.{sym, ◌∙◌, ap}
use lib.IntN.{pos}
use mir.Facts.{to_z-of_z}
use Rattle.curve.specs.Calls.{checked_answer}
use Rattle.exports.proofs.Numbers.{c_refused, c_given}
use Rattle.export_check.proofs.curve_check.Goals as goal

pub returns-in-Refused : goal.returns-in-Refused
returns-in-Refused c =
    rw (to_z-of_z (record { sfits = c.refusal.type_inv }), c.refusal.ensures)
    (c_refused pos (sym c.check.ensures ∙ ap checked_answer c.in-Refused.is))

pub returns-in-Segments : goal.returns-in-Segments
returns-in-Segments c =
    rw (to_z-of_z (record { sfits = c.from.type_inv }), c.from.ensures)
    (c_given pos (sym c.check.ensures ∙ ap checked_answer c.in-Segments.is))
