-- What contracts of inner functions cite. Nothing here need be believed.
--   saturate     an integer, or the nearest that 32 bits hold; saturated, if there is one
--   figure_of    an Option of the code, as one of the definitions
-- Assumes nothing.
use Rattle.std.specs.Prelude as code
use Rattle.std.specs.Prelude.{min, ℤ, pos, negsuc}
use Rattle.std.proofs.Math.Option.{Option, none, some}

unfoldable pub saturate : ℤ → ℤ
saturate (pos n) = pos (min n 2147483647)
saturate (negsuc n) = negsuc (min n 2147483647)

unfoldable pub saturated : Option ℤ → Option ℤ
saturated none = none
saturated (some z) = some (saturate z)

abbrev pub figure_of : code.Option ℤ → Option ℤ
figure_of code.None = none
figure_of (code.Some z) = some z
