-- The points of three lists that are equally long.
--   count_of          as many as areas
--   point_of_lists    the point at an index has the figures there
-- Assumes nothing.
use Rattle.std.proofs.Common.{◌≡◌, ℕ, List, length, get_or, ℤ, pos}
use Rattle.model.specs.Points.{points, point_at}
use Rattle.model.proofs.Lists.{fields_of, fields_length, fields_at}

pub count_of : (areas values : List ℕ) (slopes : List ℤ) → length areas ≡ length values → length areas ≡ length slopes →
    length (points areas values slopes) ≡ length areas
count_of areas values slopes v s = fields_length (fields_of areas values slopes (record { values_too = v; slopes_too = s }))

pub point_of_lists : (areas values : List ℕ) (slopes : List ℤ) → length areas ≡ length values → length areas ≡ length slopes →
    (i : ℕ) →
    point_at (points areas values slopes) i
    ≡ record { area = get_or areas i 0; value = get_or values i 0; slope = get_or slopes i (pos 0) }
point_of_lists areas values slopes v s i =
    fields_at (fields_of areas values slopes (record { values_too = v; slopes_too = s })) i
