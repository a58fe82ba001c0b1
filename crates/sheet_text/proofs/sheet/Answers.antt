-- The first line, then a line for each area from the first to the last.
use Rattle.std.proofs.Common.{◌∙◌, arith}
use Rattle.model.specs.Read.{factor}
use Rattle.text.specs.Text.{ascii}
use Rattle.layout.proofs.Points.{size_of_points}
use Rattle.lookup.proofs.Areas.{least, most}
use Rattle.sheet_text.proofs.Lines.{inside, last_limit, lines_are, one_more, all_lines}
use Rattle.sheet_text.proofs.sheet.Goals as goal

pub overflow_cast-n : goal.overflow_cast-n
overflow_cast-n c = omega (arith, most _ _ c.args.curve.now.accepted)

pub area-first-requires : goal.area-first-requires
area-first-requires c = omega (arith, least _ _ c.args.curve.now.accepted)

pub overflow_sub-n : goal.overflow_sub-n
overflow_sub-n c = omega (arith, least _ _ c.args.curve.now.accepted)

pub area-last-requires : goal.area-last-requires
area-last-requires c = omega (arith, least _ _ c.args.curve.now.accepted)

pub loop-area-init : goal.loop-area-init
unfolding ascii
loop-area-init c =
    let e = c.args.curve.now.accepted in
    let end = rw c.count-n.ensures at c.area-last.ensures in
    record {
      room = omega (arith, c.words_line.ensures.short, end, last_limit _ _ e);
      lines =
          rw (
            end,
            c.area-first.ensures,
            lines_are _ _ e,
            c.words_line.ensures.line,
            c.code.ensures,
            c.count-n.ensures,
            size_of_points _,
          );
    }

pub factor-requires : goal.factor-requires
factor-requires c =
    let end = rw c.count-n.ensures at c.area-last.ensures in
    inside _ _ c.args.curve.now.accepted _ (omega (arith, c.area-first.ensures)) (omega (arith, end))

pub push_str-requires : goal.push_str-requires
push_str-requires c = omega (arith, c.loop-area.invariant.room)

pub loop-area-preserved : goal.loop-area-preserved
unfolding factor
loop-area-preserved c =
    let k = c.loop-area.invariant in
    let read = rw c.used_shape.ensures.code at c.factor.ensures in
    let line = c.deref.ensures.0 ∙ c.entry_line.ensures in
    record {
      room = omega (arith, c.push_str.ensures.len, k.room);
      lines = rw c.push_str.ensures.bytes (one_more _ _ _ k.lines (omega arith) c.factor.type_inv read line);
    }

pub returns : goal.returns
returns c = all_lines _ _ _ c.loop-area.invariant.lines (omega arith)

pub returns-2 : goal.returns-2
unfolding factor
returns-2 c =
    let k = c.loop-area.invariant in
    let read = rw c.used_shape.ensures.code at c.factor.ensures in
    let line = c.deref.ensures.0 ∙ c.entry_line.ensures in
    let all = all_lines _ _ _ (one_more _ _ _ k.lines (omega arith) c.factor.type_inv read line) (omega arith) in
    rw c.push_str.ensures.bytes all
