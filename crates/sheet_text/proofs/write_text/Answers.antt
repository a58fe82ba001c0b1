-- The refusal's line, or the sheet.
use Rattle.std.proofs.Common.{◌∙◌, ap}
use Rattle.text.specs.Text.{ascii}
use Rattle.sheet_text.specs.SheetText.{answer_text, sheet_text}
use Rattle.sheet_text.proofs.write_text.Goals as goal

pub returns-in-Ok : goal.returns-in-Ok
unfolding answer_text sheet_text
returns-in-Ok c = rw c.in-Ok.ensures.file at c.sheet.ensures ∙ ap (answer_text _) c.in-Ok.ensures.answer

pub returns-in-Err : goal.returns-in-Err
unfolding answer_text sheet_text ascii
returns-in-Err c = rw c.number.ensures at c.words_line.ensures.line ∙ ap (answer_text _) c.in-Err.ensures.answer
