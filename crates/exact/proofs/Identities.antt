-- The tactics at work.
-- Assumes nothing.
use mathlib.Core.List.{[], ◌∷◌}
use Rattle.exact.specs.Identities.{SquareOfDifference, CubeOfSum, QuotientOfSum}
use Rattle.exact.proofs.Ring.{ring, ring_ℕ, terms}
use Rattle.exact.proofs.Field.{field, ratios, ◌∷ℚ◌}

square_of_difference : SquareOfDifference
square_of_difference a b = ring (a ∷ b ∷ []) (search terms depth 20 fits 9999) tt

cube_of_sum : CubeOfSum
cube_of_sum a b = ring_ℕ (a ∷ b ∷ []) (search terms depth 20 fits 9999) tt

quotient_of_sum : QuotientOfSum
quotient_of_sum x y z = field (x ∷ℚ y ∷ℚ z ∷ℚ []) (search ratios depth 20 fits 9999) tt
