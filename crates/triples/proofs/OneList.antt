-- The points of the lists, written into one list.
--   room_of_row_1    what row 1 passes has room in lists of as many points as a curve can have
--   points_fit       the points of an export that is taken fit into a list that has room for as many
--   one_more         one point more is written
-- Assumes nothing.
use Rattle.std.proofs.Common.{◌≡◌, ◌≤◌, ◌<◌, ◌+◌, ℕ, false, List, [], ◌∷◌, map, length, take, set, sym, ap, arith}
use Rattle.std.proofs.lemmas.List.{map-append, take_more, take_more_set}
use Rattle.model.specs.Answer.{gives, ◌then◌}
use Rattle.model.specs.Points as model
use Rattle.model.specs.Points.{points_most, origin, point_at}
use Rattle.model.specs.Check.{bad_count}
use Rattle.model.proofs.Rows.{gives_injective, then_first, then_rest, row_passed, count_of_row_1}
use Rattle.point.specs.declared.Point.{Point}
use Rattle.point.specs.Inner.{point_of}
use Rattle.points.specs.Inner.{Room}
use Rattle.triples.specs.Triples.{count, exported, point_from, export_rows}
use Rattle.triples.proofs.Sizes.{exported_length, points_length}

pub room_of_row_1 : (n : ℕ) → bad_count n ≡ false → Room n points_most points_most points_most
room_of_row_1 n counted =
    let h = (count_of_row_1 n counted).1 in record { in_areas = h; in_values = h; in_slopes = h }

pub points_fit : (bytes : List ℕ) (code : ℕ) (ps : List model.Point) (size : ℕ) →
    gives ps ≡ (export_rows (exported bytes) code then gives (map point_from (exported bytes))) →
    (bad_count (count bytes) ≡ false → count bytes ≤ size) → length ps ≤ size
unfolding export_rows
points_fit bytes code ps size e room =
    let rows = then_first (export_rows (exported bytes) code) _ (sym e) in
    let is = sym (gives_injective (then_rest (export_rows (exported bytes) code) _ (sym e))) in
    let counted : bad_count (count bytes) ≡ false = rw (← exported_length bytes) (row_passed _ 1 0 _ rows) in
    omega (arith, ap length is, points_length bytes, room counted)

pub one_more : (ps : List model.Point) (l : List Point) (i : ℕ) (p : Point) → map point_of (take i l) ≡ take i ps →
    point_of p ≡ point_at ps i → i < length ps → i < length l → map point_of (take (i + 1) (set l i p)) ≡ take (i + 1) ps
one_more ps l i p k e h r =
    rw (take_more_set l i p r, map-append point_of (take i l) (p ∷ []), k, e) (sym (take_more ps i origin h))
