-- Its pieces follow one another.
use Rattle.std.proofs.Common.{arith, to_z-of_z}
use Rattle.text.specs.Text.{ascii}
use Rattle.sheet_text.specs.SheetText.{entry_line}
use Rattle.sheet_text.proofs.entry_line.Goals as goal

pub returns : goal.returns
unfolding entry_line ascii
returns c =
    rw (
      c.push-2.ensures.ascii (omega arith),
      c.push_str-2.ensures.bytes,
      c.deref-2.ensures.0,
      c.signed.ensures,
      c.push.ensures.ascii (omega arith),
      c.push_str.ensures.bytes,
      c.deref.ensures.0,
      c.decimal.ensures,
      c.new-line.ensures,
      to_z-of_z c.ranges.factor,
    )
