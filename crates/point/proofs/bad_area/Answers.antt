-- Each test is one of row 3's.
use Rattle.std.proofs.Common.{sym, le-ltb}
use Rattle.model.specs.Check.{bad_area}
use Rattle.point.proofs.Area.{bad_area_of_large, wrapped_gap_test}
use Rattle.point.proofs.bad_area.Goals as goal

pub returns-then-area-gt-AREA_MOST : goal.returns-then-area-gt-AREA_MOST
returns-then-area-gt-AREA_MOST c = sym (bad_area_of_large _ _ c.if-area-gt-AREA_MOST.true)

pub returns-in-None : goal.returns-in-None
unfolding bad_area
returns-in-None c = rw (c.in-None.is, le-ltb _ _ c.if-area-gt-AREA_MOST.false)

pub returns-in-Some : goal.returns-in-Some
unfolding bad_area
returns-in-Some c =
    let before = rw c.in-Some.is at c.requires in
    rw (c.in-Some.is, le-ltb _ _ c.if-area-gt-AREA_MOST.false) (wrapped_gap_test before c.if-area-gt-AREA_MOST.false)
