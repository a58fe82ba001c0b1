-- Row 8, then row 7 at the first entry outside.
use Rattle.std.proofs.Common.{◌≡◌, ℕ, ◌≤◌, ◌<◌, false, sym, arith, lt-ltb, le-ltb}
use Rattle.std.proofs.lemmas.Bool.Decides.{nat_tests}
use Rattle.model.specs.Answer.{row, ◌then◌}
use Rattle.model.specs.Sheet.{entries_most, bad_sheet}
use Rattle.entries.proofs.check.Goals as goal

row_8_passed : (step n : ℕ) → bad_sheet step n ≡ false → (0 < step) × (n ≤ entries_most)
unfolding bad_sheet
row_8_passed step n e = (grind (arith, nat_tests), grind (arith, nat_tests))

pub returns-then-bad_sheet : goal.returns-then-bad_sheet
unfolding row ◌then◌
returns-then-bad_sheet g c = rw (c.at.ensures, ← c.if-bad_sheet.ensures)

pub first_outside-inside-requires-clause-step : goal.first_outside-inside-requires-clause-step
first_outside-inside-requires-clause-step g c = (row_8_passed _ _ (sym c.if-bad_sheet.ensures)).0

pub overflow_cast-inside : goal.overflow_cast-inside
overflow_cast-inside g c = record { fits = omega (arith, row_8_passed _ _ (sym c.if-bad_sheet.ensures)) }

pub returns-then-inside-n : goal.returns-then-inside-n
unfolding row ◌then◌
returns-then-inside-n g c =
    rw (c.at-then-inside-n.ensures, ← c.if-bad_sheet.ensures)
    (rw (lt-ltb _ _ c.if-inside-n.true) at (c.first_outside-inside.ensures c.args.n))

pub returns : goal.returns
unfolding row ◌then◌
returns g c =
    rw (← c.if-bad_sheet.ensures) (rw (le-ltb _ _ c.if-inside-n.false) at (c.first_outside-inside.ensures c.args.n))
