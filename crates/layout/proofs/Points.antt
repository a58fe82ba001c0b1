-- The points of a file.
--   size_of_first, first_at_is             the first n points are n; the one at an index
--   size_of_points                         as many as its count
--   point_is, point_at_is                  the point at an index
--   record_fits                            the record at an index is in the file
-- Assumes nothing.
use mathlib.Core.Path.{◌≡◌, ◌∙◌, ap}
use mathlib.Core.List.{List}
use Prim.Native.Nat.{ℕ, suc, ◌≤◌, ◌<◌}
use native.Mathlib.Nat.{zero-add}
use native.Mathlib.Omega.{arith}
use lib.ListN.{length}
use Rattle.model.specs.Inner.{origin, point_at}
use Rattle.model.proofs.Filling.{tabulate_length, tabulate_at}
use Rattle.layout.specs.Layout.{point_offset, count, record_at, points_of}
use Rattle.layout.specs.Inner.{first_points}

module _ (bytes : List ℕ) (n : ℕ) where
  pub size_of_first : length (first_points bytes n) ≡ n
  size_of_first = tabulate_length (record_at bytes) 0 n

  pub first_at_is : (i : ℕ) → i < length (first_points bytes n) → point_at (first_points bytes n) i ≡ record_at bytes i
  first_at_is i h =
      tabulate_at (record_at bytes) origin 0 i n (omega (arith, size_of_first)) ∙ ap (record_at bytes) (zero-add i)

module _ (bytes : List ℕ) where
  pub size_of_points : length (points_of bytes) ≡ count bytes
  size_of_points = size_of_first bytes (count bytes)

  pub point_at_is : (i : ℕ) → i < length (points_of bytes) → point_at (points_of bytes) i ≡ record_at bytes i
  point_at_is = first_at_is bytes (count bytes)

  pub point_is : (i : ℕ) → i < count bytes → point_at (points_of bytes) i ≡ record_at bytes i
  point_is i h = point_at_is i (omega (arith, size_of_points))

  pub record_fits : (i : ℕ) → length bytes ≡ point_offset (count bytes) → i < length (points_of bytes) →
      point_offset (suc i) ≤ length bytes
  record_fits i e h = omega (arith, size_of_points)
