-- What Open answers, row by row, and the lists after it.
--   points_in_list       a list that begins with a field of each of its points
--   lists_left           after a refusal the lists are as found, whatever would be written
--   refused_by_head      rows 9 and 10 refuse; refused_by_room, row 11; refused_by_points, rows 1 to 6
--   opened               no row refuses
-- Assumes nothing.
use Rattle.std.proofs.Common.{◌≡◌, ℕ, Bool, true, false, List, map, ◌++◌, sym, ◌∙◌, length, drop}
use lib.IntN.{ℤ}
use lib.ListN.{length-map}
use Rattle.model.specs.Answer.{Answer, gives, refused, row, ◌then◌, filled}
use Rattle.model.specs.Points.{Point}
use Rattle.model.specs.Check.{curve_rows}
use Rattle.model.proofs.Rows.{gives_injective, then_first, then_rest}
use Rattle.model.proofs.Answers.{then_refused, refused_first}
use Rattle.layout.specs.Layout.{shape_code, points_of}
use Rattle.layout.specs.Head.{head_rows}
use Rattle.layout.proofs.Points.{size_of_points}
use Rattle.file.specs.Open.{ShapeAndCount, short_list, open_answer}
use Rattle.file.specs.Laws.{open_into}
use Rattle.file.proofs.Filled.{after_refusal}

pub points_in_list : {A B : Type 0} (bytes : List ℕ) (field : Point → A) {list : List A} (found : List A) (h : B) →
    list ≡ map field (points_of bytes) ++ drop (length (points_of bytes)) found →
    list ≡ filled (gives h) (map field (points_of bytes)) found
unfolding filled
points_in_list bytes field found h k = k ∙ rw (length-map (points_of bytes) field)

module _ (bytes : List ℕ) (areas values : List ℕ) (slopes : List ℤ) where
  abbrev answer : Answer ShapeAndCount
  answer = open_into bytes areas values slopes

  pub lists_left : {a : Answer ShapeAndCount} {n i : ℕ} (of_areas of_values : List ℕ) (of_slopes : List ℤ) → a ≡ refused n i →
      refused n i ≡ answer →
      record {
        answer : a ≡ answer;
        areas : areas ≡ filled a of_areas areas;
        values : values ≡ filled a of_values values;
        slopes : slopes ≡ filled a of_slopes slopes;
      }
  lists_left of_areas of_values of_slopes e k =
      record {
        answer = e ∙ k;
        areas = after_refusal of_areas e;
        values = after_refusal of_values e;
        slopes = after_refusal of_slopes e;
      }

  pub refused_by_head : {n i : ℕ} → refused n i ≡ head_rows bytes → refused n i ≡ answer
  unfolding open_answer
  refused_by_head e = sym (then_refused _ _ (sym e))

  module _ (e : gives tt ≡ head_rows bytes) where
    abbrev short : Bool
    short = short_list (length (points_of bytes)) (length areas) (length values) (length slopes)

    after_head :
        answer
        ≡ (row short 11 0 then curve_rows (points_of bytes) (shape_code bytes)
        then gives (record { shape = shape_code bytes; count = length (points_of bytes) }))
    unfolding open_answer row ◌then◌
    after_head = rw (size_of_points bytes, sym e)

    pub refused_by_room : short ≡ true → refused 11 0 ≡ answer
    unfolding row ◌then◌
    refused_by_room s = rw (after_head, s)

    module _ (s : short ≡ false) {code : ℕ} (same_code : code ≡ shape_code bytes) where
      pub refused_by_points : {A : Type 0} {n i : ℕ} (x : A) → refused n i ≡ (curve_rows (points_of bytes) code then gives x) →
          refused n i ≡ answer
      unfolding row ◌then◌
      refused_by_points x k = rw (after_head, s, ← same_code, refused_first _ _ (sym k))

      pub opened : {shape n : ℕ} → gives shape ≡ (curve_rows (points_of bytes) code then gives code) →
          n ≡ length (points_of bytes) →
          gives (record { shape = shape; count = n }) ≡ answer
      unfolding row ◌then◌
      opened k same_count =
          let rows = curve_rows (points_of bytes) code in
          let same_shape = gives_injective (then_rest rows _ (sym k)) in
          rw (after_head, s, ← same_code, then_first rows _ (sym k), same_count, same_shape)
