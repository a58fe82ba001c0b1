-- Its pieces follow one another.
use Rattle.std.proofs.Common.{arith}
use Rattle.text.specs.Text.{ascii}
use Rattle.sheet_text.specs.SheetText.{words_line}
use Rattle.sheet_text.proofs.words_line.Goals as goal

pub returns-clause-line : goal.returns-clause-line
unfolding words_line ascii
returns-clause-line c =
    rw (
      c.push.ensures.ascii (omega arith),
      c.push_str-4.ensures.bytes,
      c.deref-2.ensures.0,
      c.decimal-2.ensures,
      c.push_str-3.ensures.bytes,
      c.push_str-2.ensures.bytes,
      c.deref.ensures.0,
      c.decimal.ensures,
      c.push_str.ensures.bytes,
      c.clear.ensures,
    )
