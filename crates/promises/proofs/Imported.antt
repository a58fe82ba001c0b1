-- The curves of the statistics package.
-- Assumes nothing.
use mathlib.Core.Path.{refl, sym, ◌∙◌}
use borrow.Author.Tests.{le-ltb}
use lib.ListN.{length}
use Rattle.model.specs.Answer.{row, ◌then◌}
use Rattle.file.specs.Open.{short_list}
use Rattle.import.specs.Import.{points_of}
use Rattle.import.proofs.Laws.{imported_is_accepted, taken_as_by_open}
use Rattle.promises.specs.Imported.{ImportAccepts, CurvesAreTaken}

pub import_accepts : ImportAccepts
import_accepts bytes code areas values slopes n e =
    let k = imported_is_accepted bytes code areas values slopes n e in
    (record { points = points_of bytes; code = code; accepted = k.accepted }, refl, refl, sym k.number)

pub curves_are_taken : CurvesAreTaken
unfolding short_list row ◌then◌
curves_are_taken c bytes k areas values slopes a v s =
    let t = taken_as_by_open bytes c.points k in
    let n = length c.points in (
      t.answer c.code areas values slopes ∙ rw (le-ltb areas n a, le-ltb values n v, le-ltb slopes n s, c.accepted) refl,
      t.points_are,
    )
