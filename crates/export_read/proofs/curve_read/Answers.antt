-- `export_read::curve_read` meets its contract, by what Read promises.
-- Assumes nothing.
use mathlib.Core.Path.{sym, ◌∙◌, ap}
use Rattle.std.proofs.Common.{rules}
use mir.Syntax.{w32}
use mir.Val.{SFits}
use mir.Facts.{to_z-of_z}
use Rattle.curve.specs.Calls.{reading_answer}
use Rattle.exports.proofs.Numbers.{c_refused, c_given}
use Rattle.export_read.proofs.curve_read.Goals as goal

pub returns-in-Refused : goal.returns-in-Refused
returns-in-Refused c =
    rw (to_z-of_z (record { sfits = c.refusal.type_inv }), c.refusal.ensures)
    (c_refused (λ factor. factor) (sym c.read.ensures.answer ∙ ap reading_answer c.in-Refused.is))

pub returns-in-Factor : goal.returns-in-Factor
returns-in-Factor c =
    let fits : SFits w32 c.in-Factor.factor = search rules in
    rw (to_z-of_z (record { sfits = c.from.type_inv }), c.from.ensures, to_z-of_z fits)
    (c_given (λ factor. factor) (sym c.read.ensures.answer ∙ ap reading_answer c.in-Factor.is))
