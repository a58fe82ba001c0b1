-- The text so far and the lines that are left are the whole text.
use Rattle.std.proofs.Common.{◌≡◌, ◌+◌, ◌*◌, ◌≤◌, ◌++◌, length}
use Rattle.layout.specs.Layout.{count, points_of}
use Rattle.shape.specs.Codes.{code_of}
use Rattle.sheet_text.specs.SheetText.{head_line, sheet_lines}
use Rattle.sheet_text.proofs.Lines.{so_many, lines_left}
use Rattle.sheet_text.proofs.sheet.Given as goal

abbrev pub invariant-loop-area : goal.invariant-loop-area
invariant-loop-area l =
    let bytes = l.curve.points.bytes.now in
    let code = code_of l.curve.shape in
    record {
      room : length l.text.bytes + 23 * so_many l.area l.last ≤ 35 + 23 * 801;
      lines : l.text.bytes ++ lines_left (points_of bytes) code l.area l.last
          ≡ head_line code (count bytes) ++ sheet_lines (points_of bytes) code;
    }
