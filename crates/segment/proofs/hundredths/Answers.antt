-- The sum is read back from its bits.
use Rattle.std.proofs.Common.{to_z-of_z}
use Rattle.segment.proofs.Sizes.{sum_is, sum_fits, sum_fits_32}
use Rattle.segment.proofs.hundredths.Goals as goal

pub overflow_add-result-2 : goal.overflow_add-result-2
overflow_add-result-2 c = rw (c.from.ensures, c.from-2.ensures, sum_is c.requires) (sum_fits c.requires)

pub overflow_cast-result-3 : goal.overflow_cast-result-3
overflow_cast-result-3 c =
    rw (c.from.ensures, c.from-2.ensures, sum_is c.requires, to_z-of_z (sum_fits c.requires)) (sum_fits_32 c.requires)

pub returns : goal.returns
returns c =
    rw (c.from.ensures, c.from-2.ensures, sum_is c.requires, to_z-of_z (sum_fits c.requires))
    (to_z-of_z (sum_fits_32 c.requires))
