-- The rows of Import, in their order.
--   Passed, passed         row 13 is passed
--   refused_by_13, refused_by_11, refused_by_1, refused_by_2    which refuses; rows_left, after 13 and 11
--   refused_by_points, all_pass     the rows of the points
--   Given, given           all are passed, and the points are the export's; few, 64 at most
--   own_room, room         there is room for the points, in our own lists and in the lent ones
--   after_list             a list into which the points are written
-- Assumes nothing.
use Rattle.std.proofs.Common.{◌≡◌, sym, ap, ℕ, ◌≤◌, true, false, List, map, ◌++◌, length, drop}
use lib.ListN.{length-map}
use Rattle.model.specs.Answer.{gives, refused, row, ◌then◌, filled}
use Rattle.model.specs.Points.{points_most, Point}
use Rattle.model.specs.Check.{bad_count, bad_code}
use Rattle.model.proofs.Answers.{then_refused, refused_first}
use Rattle.model.proofs.Rows.{gives_injective, then_first, then_rest, row_passed, row_refused, count_of_row_1}
use Rattle.points.specs.Inner.{Room}
use Rattle.file.specs.Open.{short_list}
use Rattle.file.proofs.Room.{room_of_row_11}
use Rattle.triples.specs.Triples.{bad_length, count, exported, export_rows}
use Rattle.triples.proofs.Sizes.{exported_length, points_length}
use Rattle.import.specs.Import.{points_of, import_answer}

module _ (bytes : List ℕ) where
  pub record Passed (own : List ℕ) : Type 0 where
    pub same : own ≡ bytes
    pub multiple : bad_length bytes ≡ false

  pub passed : {own : List ℕ} → gives own ≡ (row (bad_length bytes) 13 0 then gives bytes) → Passed own
  passed e =
      record {
        same = sym (gives_injective (then_rest (row (bad_length bytes) 13 0) _ (sym e)));
        multiple = row_passed (bad_length bytes) 13 0 _ (sym e);
      }

module _ (bytes : List ℕ) (code areas values slopes : ℕ) where
  pub refused_by_13 : {number : ℕ} → refused number 0 ≡ (row (bad_length bytes) 13 0 then gives bytes) →
      refused number 0 ≡ import_answer bytes code areas values slopes
  unfolding import_answer row ◌then◌
  refused_by_13 e = let k = row_refused (bad_length bytes) 13 0 bytes (sym e) in rw (k.0, k.1)

  module _ (m : bad_length bytes ≡ false) where
    pub refused_by_11 : short_list (count bytes) areas values slopes ≡ true →
        refused 11 0 ≡ import_answer bytes code areas values slopes
    unfolding import_answer row ◌then◌
    refused_by_11 e = rw (m, e)

    module _ (r : short_list (count bytes) areas values slopes ≡ false) where
      pub refused_by_1 : bad_count (count bytes) ≡ true → refused 1 0 ≡ import_answer bytes code areas values slopes
      unfolding import_answer export_rows row ◌then◌
      refused_by_1 n = rw (m, r, exported_length bytes, n)

      pub refused_by_2 : {number : ℕ} → bad_count (count bytes) ≡ false →
          refused number 0 ≡ (row (bad_code code) 2 0 then gives code) →
          refused number 0 ≡ import_answer bytes code areas values slopes
      unfolding import_answer export_rows row ◌then◌
      refused_by_2 n e =
          let k = row_refused (bad_code code) 2 0 code (sym e) in rw (m, r, exported_length bytes, n, k.0, k.1)

    pub rows_left : short_list (count bytes) areas values slopes ≡ false →
        (export_rows (exported bytes) code then gives (count bytes)) ≡ import_answer bytes code areas values slopes
    unfolding import_answer row ◌then◌
    rows_left r = rw (m, r)

pub refused_by_points : (bytes : List ℕ) (code : ℕ) {number place : ℕ} →
    refused number place ≡ (export_rows (exported bytes) code then gives (points_of bytes)) →
    refused number place ≡ (export_rows (exported bytes) code then gives (count bytes))
refused_by_points bytes code e = sym (then_refused _ _ (refused_first _ _ (sym e)))

pub all_pass : (bytes : List ℕ) (code : ℕ) → export_rows (exported bytes) code ≡ gives tt →
    gives (count bytes) ≡ (export_rows (exported bytes) code then gives (count bytes))
unfolding ◌then◌
all_pass bytes code e = rw e

pub record Given (bytes : List ℕ) (code : ℕ) (ps : List Point) : Type 0 where
  pub points_are : ps ≡ points_of bytes
  pub rows : export_rows (exported bytes) code ≡ gives tt

pub given : (bytes : List ℕ) (code : ℕ) (ps : List Point) →
    gives ps ≡ (export_rows (exported bytes) code then gives (points_of bytes)) →
    Given bytes code ps
given bytes code ps e =
    record {
      points_are = sym (gives_injective (then_rest (export_rows (exported bytes) code) _ (sym e)));
      rows = then_first (export_rows (exported bytes) code) _ (sym e);
    }

pub few : (bytes : List ℕ) (code : ℕ) → export_rows (exported bytes) code ≡ gives tt → count bytes ≤ points_most
unfolding export_rows
few bytes code e =
    rw (← exported_length bytes) (count_of_row_1 _ (row_passed _ 1 0 _ e)).1

-- ---- the lists

pub own_room : {n size : ℕ} → n ≤ size → Room n size size size
own_room h = record { in_areas = h; in_values = h; in_slopes = h }

-- the points of an export fit into lists that row 11 passes
pub room : (bytes : List ℕ) (areas values slopes : ℕ) {ps : List Point} →
    short_list (count bytes) areas values slopes ≡ false → ps ≡ points_of bytes →
    Room (length ps) areas values slopes
room bytes areas values slopes e is = rw (ap length is, points_length bytes) (room_of_row_11 e)

pub after_list : {B : Type 0} (field : Point → B) (bytes : List ℕ) {ps : List Point} (found : List B) (n : ℕ) →
    ps ≡ points_of bytes →
    map field ps ++ drop (length ps) found ≡ filled (gives n) (map field (points_of bytes)) found
unfolding filled
after_list field bytes found n e = rw (e, length-map (points_of bytes) field)
