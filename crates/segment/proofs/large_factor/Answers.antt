-- Both sums are read back from their bits. The first reads the curve where that decides, the second does.
use Rattle.std.proofs.Common.{sym, ◌∙◌, rules, w32, to_z-of_z}
use Rattle.point.proofs.Figures.{slope_read}
use Rattle.segment.proofs.Sizes.{sum_size, result_read}
use Rattle.segment.proofs.BentReading.{sum_input, near_input, bent_reads, near_reads}
use Rattle.segment.proofs.large_factor.Goals as goal

pub hundredths-requires : goal.hundredths-requires
hundredths-requires c =
    rw (slope_read c.requires.good.ends.left)
    (near_input c.requires c.at-x.ensures (c.is_large.ensures c.if-is_large.true) c.leading.ensures)

pub nearly-requires : goal.nearly-requires
nearly-requires c =
    let k = near_input c.requires c.at-x.ensures (c.is_large.ensures c.if-is_large.true) c.leading.ensures in
    rw (result_read k c.hundredths.ensures) (sum_size k)

pub returns-in-Some : goal.returns-in-Some
returns-in-Some c =
    let k = near_input c.requires c.at-x.ensures (c.is_large.ensures c.if-is_large.true) c.leading.ensures in
    let reads = rw (result_read k c.hundredths.ensures) at c.in-Some.ensures.sure in
    to_z-of_z {w = w32} (search rules) ∙ sym (near_reads c.requires c.at-x.ensures c.leading.ensures _ reads)

pub hundredths-requires-2 : goal.hundredths-requires-2
hundredths-requires-2 c =
    rw (slope_read c.requires.good.ends.left) (sum_input c.requires c.at-x.ensures c.excess-e.ensures)

pub units-requires : goal.units-requires
units-requires c =
    let k = sum_input c.requires c.at-x.ensures c.excess-e.ensures in
    rw (result_read k c.hundredths-2.ensures) (sum_size k)

pub returns : goal.returns
returns c =
    let k = sum_input c.requires c.at-x.ensures c.excess-e.ensures in
    let e = rw (result_read k c.hundredths-2.ensures) at c.units.ensures in
    to_z-of_z {w = w32} (search rules) ∙ e ∙ bent_reads c.requires c.at-x.ensures c.excess-e.ensures
