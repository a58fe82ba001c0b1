-- The figures of the segment are those of the rising curve.
use Rattle.std.proofs.Common.{sym, ◌∙◌, rules, w32, to_z-of_z}
use Rattle.exact.proofs.Signed.{cast-of-natural}
use Rattle.point.proofs.Figures.{slope_fits, slope_read, value_read}
use Rattle.segment.proofs.Distances.{u_read}
use Rattle.segment.proofs.RisingReading.{rises, rising_input, rising_reads, level_reads}
use Rattle.segment.proofs.rising_factor.Goals as goal

pub returns-then-s : goal.returns-then-s
returns-then-s c = value_read c.requires.good.ends.left ∙ sym (level_reads c.requires c.if-s.true)

pub overflow_sub-s-2 : goal.overflow_sub-s-2
overflow_sub-s-2 c = (rises c.requires c.if-s.false).values

pub overflow_cast-d0 : goal.overflow_cast-d0
overflow_cast-d0 c =
    let l = c.requires.good.ends.left in
    rw (slope_read l) (cast-of-natural tt (slope_fits l) (rises c.requires c.if-s.false).left_slope)

pub overflow_cast-d1 : goal.overflow_cast-d1
overflow_cast-d1 c =
    let l = c.requires.good.ends.right in
    rw (slope_read l) (cast-of-natural tt (slope_fits l) (rises c.requires c.if-s.false).right_slope)

pub rising-requires : goal.rising-requires
rising-requires c =
    let i = c.requires in
    let n = i.good.ends in
    rw (c.from-t.ensures, c.from.ensures, c.from-2.ensures, c.from-rise.ensures, slope_read n.left, slope_read n.right, u_read i)
    (rising_input i c.if-s.false)

pub returns : goal.returns
returns c =
    let i = c.requires in
    let n = i.good.ends in
    let read = to_z-of_z {w = w32} {z = c.rising.result} (search rules) in
    cc (slope_read n.left, slope_read n.right, u_read i, rising_reads i c.if-s.false)
