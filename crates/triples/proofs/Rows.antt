-- Rows 14 and 3 to 6 of an export, by those of its points brought into range.
--   rows_of_whole       rows 3 to 5 of the points before one that is not taken, then row 14
--   points_of_passed    where they refuse nothing, these are the export's points
--   at_most_all         as many are taken as there are, or fewer
--   points_given        rows 1 to 6 and 14 where all are taken, then the points
--   refused_by_count, refused_by_code, refused_before_14, refused_by_14    which row refuses
-- Assumes nothing.
use mathlib.Core.Path.{◌≡◌, refl, sym, ◌∙◌, ap}
use mathlib.Core.Bool.{Bool, true, false}
use mathlib.Core.List.{List, [], ◌∷◌, map}
use mathlib.Core.Option.{Option, none, some}
use Prim.Native.Nat.{ℕ, suc, ◌+◌, ◌≤◌, ◌<◌}
use native.Mathlib.Nat.{zero-add, add-zero}
use native.Mathlib.Omega.{arith}
use borrow.Author.Tests.{ltb-false, lt-ltb, le-ltb}
use lib.Dec.{ltb, leb, ltb→lt, lt→ltb}
use lib.ListN.{length}
use Rattle.exact.proofs.Tests.{same_test, or_left}
use Rattle.model.specs.Answer.{Answer, gives, refused, row, ◌then◌}
use Rattle.model.specs.Points.{segments, rule_of}
use Rattle.model.specs.Check.{bad_count, bad_code, bad_area, bad_value, bad_slope, point_rows, segment_rows, curve_rows}
use Rattle.model.specs.Inner.{Limits}
use Rattle.model.proofs.Rows.{passed, row_refused, then_first, then_rest}
use Rattle.binary64.specs.Inner.{saturate}
use Rattle.triples.specs.Triples.{WholePoint, natural, triple_rows, point_from, export_rows}
use Rattle.std.specs.Int.{w32, cast_unsigned}
use Rattle.triples.specs.Inner.{ranged_point, whole_points}
use Rattle.triples.proofs.Limits.{area_alike, value_alike, slope_alike, natural_of_limit, slope_of_limit}

-- how many are taken before one that is not
abbrev pub whole_count : List (Option WholePoint) → ℕ
whole_count ps = length (whole_points ps)

-- row 14, at the first point that is not taken
abbrev pub row_14 : ℕ → List (Option WholePoint) → Answer (Unit {0})
row_14 i ps = row (ltb (whole_count ps) (length ps)) 14 (i + whole_count ps)

-- ---- rows 3 to 5 and 14

-- an area that row 3 passes is within the limits
small_area : (before : Option ℕ) (n : ℕ) → bad_area before n ≡ false → n ≤ 200000
unfolding bad_area
small_area none n e = omega (arith, ltb-false 20000 n e)
small_area (some before) n e =
    omega (arith, ltb-false 20000 n (or_left _ (leb n before) (or_left _ (ltb (before + 2000) n) e)))

-- three rows, and what follows where the first passes
three_then : (b c d : Bool) (i : ℕ) (f g r : Answer (Unit {0})) → (b ≡ false → f ≡ (g then r)) →
    (row b 3 i then row c 4 i then row d 5 i then f) ≡ ((row b 3 i then row c 4 i then row d 5 i then g) then r)
unfolding row ◌then◌
three_then true c d i f g r h = refl
three_then false true d i f g r h = refl
three_then false false true i f g r h = refl
three_then false false false i f g r h = h refl

-- one point more before it
row_14_next : (i : ℕ) (p : WholePoint) (ps : List (Option WholePoint)) → row_14 (suc i) ps ≡ row_14 i (some p ∷ ps)
unfolding whole_points
row_14_next i p ps =
    let k = whole_count ps in
    let test : ltb k (length ps) ≡ ltb (suc k) (suc (length ps)) = same_test _ _
    (λ t. let h = ltb→lt k (length ps) t in lt→ltb (suc k) (suc (length ps)) (omega arith))
    (λ t. let h = ltb→lt (suc k) (suc (length ps)) t in lt→ltb k (length ps) (omega arith)) in
    let place : suc i + k ≡ i + suc k = omega arith in
    rw (test, place) refl

rows_of_whole : (i : ℕ) (before : Option ℕ) (ps : List (Option WholePoint)) →
    triple_rows i before ps ≡ (point_rows i before (whole_points ps) then row_14 i ps)
unfolding triple_rows point_rows whole_points ranged_point row ◌then◌
rows_of_whole i before [] = refl
rows_of_whole i before (none ∷ ps) = rw (lt-ltb 0 (suc (length ps)) (omega arith), add-zero i) refl
rows_of_whole i before (some p ∷ ps) =
    let area = cast_unsigned w32 (saturate p.area) in
    let later : bad_area before area ≡ false →
    triple_rows (suc i) (some (natural p.area)) ps
    ≡ (point_rows (suc i) (some area) (whole_points ps) then row_14 i (some p ∷ ps)) =
    λ e. rw (sym (natural_of_limit p.area (small_area before area e))) (rows_of_whole (suc i) (some area) ps)
    ∙ ap (λ r. point_rows (suc i) (some area) (whole_points ps) then r) (row_14_next i p ps) in
    rw (area_alike before p.area, value_alike p.value, slope_alike p.slope)
    (three_then (bad_area before area) (bad_value (cast_unsigned w32 (saturate p.value))) (bad_slope (saturate p.slope)) i _ _ _
    later)

-- ---- where they refuse nothing

point_alike : (p : WholePoint) → Limits (ranged_point p) → ranged_point p ≡ point_from (some p)
unfolding ranged_point point_from
point_alike p k =
    let area = natural_of_limit p.area (omega (arith, k.area)) in
    let value = natural_of_limit p.value k.value in
    let slope = slope_of_limit p.slope k.slope_low k.slope_high in
    rw (area, value, slope) refl

points_of_passed : (i : ℕ) (before : Option ℕ) (ps : List (Option WholePoint)) → whole_count ps ≡ length ps →
    point_rows i before (whole_points ps) ≡ gives tt → whole_points ps ≡ map point_from ps
unfolding whole_points
points_of_passed i before [] all e = refl
points_of_passed i before (none ∷ ps) all e = absurd (omega arith)
points_of_passed i before (some p ∷ ps) all e =
    let k = passed i before (ranged_point p) (whole_points ps) e in
    rw (points_of_passed (suc i) (some (ranged_point p).area) ps (omega arith) k.later, point_alike p k.limits) refl

pub at_most_all : (ps : List (Option WholePoint)) → whole_count ps ≤ length ps
unfolding whole_points
at_most_all [] = omega arith
at_most_all (none ∷ ps) = omega arith
at_most_all (some p ∷ ps) = omega (arith, at_most_all ps)

-- ---- rows 1 to 6 and 14

-- what follows rows that pass
then_alike : {A : Type 0} (x : Answer (Unit {0})) (y z : Answer A) → (x ≡ gives tt → y ≡ z) → (x then y) ≡ (x then z)
unfolding ◌then◌
then_alike (gives u) y z h = h refl
then_alike (refused n i) y z h = refl

then_nothing : (x y : Answer (Unit {0})) → y ≡ gives tt → (x then y) ≡ x
unfolding ◌then◌
then_nothing (gives u) y e = e
then_nothing (refused n i) y e = refl

then_ends : (x : Answer (Unit {0})) (n i : ℕ) (y : Answer (Unit {0})) → ((x then refused n i) then y) ≡ (x then refused n i)
unfolding ◌then◌
then_ends (gives u) n i y = refl
then_ends (refused m j) n i y = refl

module _ (ps : List (Option WholePoint)) (code : ℕ) where
  none_left : whole_count ps ≡ length ps → row_14 0 ps ≡ gives tt
  unfolding row
  none_left all = rw (le-ltb (whole_count ps) (length ps) (omega arith)) refl

  export_of_curve : whole_count ps ≡ length ps → export_rows ps code ≡ curve_rows (whole_points ps) code
  unfolding export_rows curve_rows
  export_of_curve all =
      let passing = then_alike (point_rows 0 none (whole_points ps)) _ _
      (λ e. ap (λ qs. segment_rows 0 (rule_of code) (segments qs)) (sym (points_of_passed 0 none ps all e))) in
      rw (all, rows_of_whole 0 none ps, then_nothing (point_rows 0 none (whole_points ps)) _ (none_left all))
      (ap (λ rest. row (bad_count (length ps)) 1 0 then row (bad_code code) 2 0 then rest) passing)

  -- an accepted curve has the export's points
  points_of_accepted : whole_count ps ≡ length ps → curve_rows (whole_points ps) code ≡ gives tt →
      whole_points ps ≡ map point_from ps
  unfolding curve_rows
  points_of_accepted all e =
      points_of_passed 0 none ps all (then_first _ _ (then_rest (row (bad_code code) 2 0) _ (then_rest (row _ 1 0) _ e)))

  one_left : whole_count ps < length ps → row_14 0 ps ≡ refused 14 (whole_count ps)
  unfolding row
  one_left h = rw (lt-ltb (whole_count ps) (length ps) h, zero-add (whole_count ps)) refl

  -- what follows the rows of an export whose points are all taken
  pub points_given : whole_count ps ≡ length ps →
      (curve_rows (whole_points ps) code then gives (whole_points ps)) ≡ (export_rows ps code then gives (map point_from ps))
  points_given all =
      rw (export_of_curve all) (then_alike (curve_rows (whole_points ps) code) _ _ (λ e. ap gives (points_of_accepted all e)))

  module _ {A : Type 0} (rest : Answer A) where
    pub refused_by_count : bad_count (length ps) ≡ true → refused 1 0 ≡ (export_rows ps code then rest)
    unfolding export_rows row ◌then◌
    refused_by_count n = rw n

    module _ (n : bad_count (length ps) ≡ false) where
      pub refused_by_code : {number : ℕ} → refused number 0 ≡ (row (bad_code code) 2 0 then gives code) →
          refused number 0 ≡ (export_rows ps code then rest)
      unfolding export_rows row ◌then◌
      refused_by_code e = let k = row_refused (bad_code code) 2 0 code (sym e) in rw (n, k.0, k.1)

      module _ (c : bad_code code ≡ false) (few : whole_count ps < length ps) where
        by_14 : export_rows ps code ≡ (point_rows 0 none (whole_points ps) then refused 14 (whole_count ps))
        unfolding export_rows row ◌then◌
        by_14 =
            rw (n, c, rows_of_whole 0 none ps, one_left few)
            (then_ends (point_rows 0 none (whole_points ps)) 14 (whole_count ps) _)

        pub refused_before_14 : {number place : ℕ} → refused number place ≡ point_rows 0 none (whole_points ps) →
            refused number place ≡ (export_rows ps code then rest)
        unfolding ◌then◌
        refused_before_14 e = rw (by_14, ← e)

        pub refused_by_14 : point_rows 0 none (whole_points ps) ≡ gives tt →
            refused 14 (whole_count ps) ≡ (export_rows ps code then rest)
        unfolding ◌then◌
        refused_by_14 e = rw (by_14, e)
