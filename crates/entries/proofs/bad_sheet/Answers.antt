-- Each test is one of row 8's.
use Rattle.std.proofs.Common.{rules}
use Rattle.model.specs.Sheet.{bad_sheet}
use Rattle.entries.proofs.bad_sheet.Goals as goal

pub returns-then-n-eq0 : goal.returns-then-n-eq0
unfolding bad_sheet
returns-then-n-eq0 c = search rules

pub returns-else-n-eq0 : goal.returns-else-n-eq0
unfolding bad_sheet
returns-else-n-eq0 c = search rules
