-- What laws and contracts of inner functions cite. Nothing here need be believed.
--   eqZ          equality of integers, as a test
--   Shiftable    what a floor division asks: a million times the divisor is not less than the number
--   Mixed        what the rounding of k + r / d asks
--   sticky       0 for 0, else 1: whether a division left anything
--   Divided      quotient and remainder of a division
--   Shared       what the quotient of a product by one division asks
-- Assumes nothing.
use Rattle.std.specs.Prelude.{◌≡◌, Bool, ◌&&◌, cond, eqb, ℤ, nat_abs, ℕ, ◌+◌, ◌*◌, ◌/◌, ◌^◌, ◌≤◌, ◌<◌}
use Rattle.std.specs.Int.Signed.{le_z}

abbrev pub eqZ : ℤ → ℤ → Bool
eqZ a b = le_z a b && le_z b a

pub record Shiftable (n : ℤ) (d : ℕ) : Type 0 where
  pub above_0 : 0 < d
  pub small : d ≤ 1000
  pub size : nat_abs n ≤ 1000000 * d

pub record Mixed (k : ℤ) (r d : ℕ) : Type 0 where
  pub size : nat_abs k ≤ 1000000
  pub above_0 : 0 < d
  pub part : r ≤ d
  pub divisor : d < 2 ^ 62

abbrev pub sticky : ℕ → ℕ
sticky r = cond (eqb r 0) 0 1

-- q and r are quotient and remainder of n by c
pub record Divided (n c q r : ℕ) : Type 0 where
  pub product : n ≡ q * c + r
  pub rest : r < c

-- x y / c by digits in base k
pub record Shared (x y c k : ℕ) : Type 0 where
  pub base : 0 < k
  pub divisor : c < 2 ^ 63
  pub digit : k * y < 2 ^ 64
  pub size : x * y < k * 2 ^ 64
  pub room : k * (x * y / c + 1) ≤ c
