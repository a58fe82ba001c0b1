-- Row 11 that refuses nothing: there is room for the points in the lists, of a file and of an export.
-- Assumes nothing.
use Rattle.std.proofs.Common.{◌≡◌, ℕ, false, arith}
use Rattle.std.proofs.lemmas.Bool.Decides.{nat_tests}
use Rattle.points.specs.Inner.{Room}
use Rattle.file.specs.Open.{short_list}

pub room_of_row_11 : {n areas values slopes : ℕ} → short_list n areas values slopes ≡ false → Room n areas values slopes
unfolding short_list
room_of_row_11 e =
    record {
      in_areas = grind (arith, nat_tests);
      in_values = grind (arith, nat_tests);
      in_slopes = grind (arith, nat_tests);
    }
