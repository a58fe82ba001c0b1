-- The sum is read back from its bits, and it reads the curve.
use Rattle.std.proofs.Common.{◌∙◌, rules, w32, to_z-of_z}
use Rattle.point.proofs.Figures.{slope_read}
use Rattle.segment.proofs.Sizes.{sum_size, result_read}
use Rattle.segment.proofs.BentReading.{sum_input, bent_reads}
use Rattle.segment.proofs.convex_factor.Goals as goal

pub hundredths-requires : goal.hundredths-requires
hundredths-requires c =
    rw (slope_read c.requires.good.ends.left) (sum_input c.requires c.at-x.ensures c.excess-e.ensures)

pub units-requires : goal.units-requires
units-requires c =
    let k = sum_input c.requires c.at-x.ensures c.excess-e.ensures in
    rw (result_read k c.hundredths.ensures) (sum_size k)

pub returns : goal.returns
returns c =
    let k = sum_input c.requires c.at-x.ensures c.excess-e.ensures in
    let e = rw (result_read k c.hundredths.ensures) at c.units.ensures in
    to_z-of_z {w = w32} (search rules) ∙ e ∙ bent_reads c.requires c.at-x.ensures c.excess-e.ensures
