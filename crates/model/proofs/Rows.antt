-- What rows that refuse nothing say.
--   gives_injective           a result is one; refused≢gives, and no refusal; gives_tt, rows that refuse nothing
--   then_first, then_rest     the parts of `first then rest` that gives a result
--   row_passed                a row before a result does not apply; row_left, nor one that refuses nothing
--   row_refused               where it refuses, it does so by its own number
--   alike_of_row_1            the three lists are equally long
--   count_of_row_1            2 to 64 points; code_of_row_2, a code from 1 to 4
--   Passed, passed            rows 3 to 5 at one point, and the rows of the points after it
--   neighbours                two points that pass rows 3 to 5
-- Assumes nothing.
use mathlib.Core.Path.{◌≡◌, refl, sym}
use mathlib.Core.Bool.{Bool, true, false, not, ◌||◌}
use mathlib.Core.List.{List, ◌∷◌}
use mathlib.Core.Option.{Option, none, some}
use Prim.Native.Nat.{ℕ, suc, ◌+◌, ◌≤◌, ◌<◌}
use native.Mathlib.Omega.{arith}
use borrow.Author.Tests.{eqb-true, leb-false, ltb-false, not-false}
use lib.Dec.{eqb, leb, ltb}
use lib.IntN.{pos, neg_ℤ}
use lib.Signed.{lt_z}
use Rattle.model.specs.Answer.{Answer, gives, refused, row, ◌then◌}
use Rattle.model.specs.Points.{points_least, points_most, area_most, gap_most, value_most, slope_most, Point}
use Rattle.model.specs.Check.{lengths_differ, bad_count, bad_code, bad_area, bad_value, bad_slope, point_rows}
use Rattle.model.specs.Inner.{gives_nothing, Alike, between, Limits, Neighbours}
use Rattle.exact.proofs.Tests.{or_left, or_right, ≤_of_lt_z_false}

-- ---- answers

pub gives_injective : {A : Type 0} {x y : A} → gives x ≡ gives y → x ≡ y
gives_injective e = cc

pub refused≢gives : {A : Type 0} {n i : ℕ} {x : A} → refused n i ≡ gives x → ⊥
refused≢gives e = let z : ◌≡◌ {A = ℕ} 0 1 = cc in omega arith

pub gives_tt : (a : Answer (Unit {0})) → gives_nothing a ≡ true → a ≡ gives tt
gives_tt (gives u) e = refl
gives_tt (refused n i) e = cc

pub then_first : {A : Type 0} {x : A} (first : Answer (Unit {0})) (rest : Answer A) → (first then rest) ≡ gives x →
    first ≡ gives tt
unfolding ◌then◌
then_first (gives u) rest e = refl
then_first (refused n i) rest e = absurd (refused≢gives e)

pub then_rest : {A : Type 0} {x : A} (first : Answer (Unit {0})) (rest : Answer A) → (first then rest) ≡ gives x →
    rest ≡ gives x
unfolding ◌then◌
then_rest (gives u) rest e = e
then_rest (refused n i) rest e = absurd (refused≢gives e)

pub row_passed : {A : Type 0} {x : A} (b : Bool) (n i : ℕ) (rest : Answer A) → (row b n i then rest) ≡ gives x → b ≡ false
unfolding row
row_passed true n i rest e = absurd (refused≢gives (then_first (refused n i) rest e))
row_passed false n i rest e = refl

pub row_left : (b : Bool) (n i : ℕ) → row b n i ≡ gives tt → b ≡ false
unfolding row
row_left true n i e = absurd (refused≢gives e)
row_left false n i e = refl

pub row_refused : {A : Type 0} {m j : ℕ} (b : Bool) (n i : ℕ) (x : A) → (row b n i then gives x) ≡ refused m j →
    (m ≡ n) × (b ≡ true)
unfolding row ◌then◌
row_refused true n i x e = (cc, refl)
row_refused false n i x e = absurd (refused≢gives (sym e))

-- ---- row 1

pub alike_of_row_1 : (areas values slopes : ℕ) → lengths_differ areas values slopes ≡ false → Alike areas values slopes
unfolding lengths_differ
alike_of_row_1 areas values slopes e =
    record {
      values_too = eqb-true areas values (not-false (eqb areas values) (or_left _ (not (eqb areas slopes)) e));
      slopes_too = eqb-true areas slopes (not-false (eqb areas slopes) (or_right (not (eqb areas values)) _ e));
    }

pub count_of_row_1 : (n : ℕ) → bad_count n ≡ false → (points_least ≤ n) × (n ≤ points_most)
unfolding bad_count
count_of_row_1 n e =
    (ltb-false n points_least (or_left _ (ltb points_most n) e), ltb-false points_most n (or_right (ltb n points_least) _ e))

pub code_of_row_2 : (code : ℕ) → bad_code code ≡ false → (1 ≤ code) × (code ≤ 4)
unfolding bad_code
code_of_row_2 code e = (ltb-false code 1 (or_left _ (ltb 4 code) e), ltb-false 4 code (or_right (ltb code 1) _ e))

-- ---- rows 3 to 5

limit_of_row_3 : (before : Option ℕ) (area : ℕ) → bad_area before area ≡ false → area ≤ area_most
unfolding bad_area
limit_of_row_3 none area e = ltb-false area_most area e
limit_of_row_3 (some before) area e =
    ltb-false area_most area (or_left _ (leb area before) (or_left _ (ltb (before + gap_most) area) e))

gap_of_row_3 : (before area : ℕ) → bad_area (some before) area ≡ false → (before < area) × (area ≤ before + gap_most)
unfolding bad_area
gap_of_row_3 before area e = (
  leb-false area before (or_right (ltb area_most area) _ (or_left _ (ltb (before + gap_most) area) e)),
  ltb-false (before + gap_most) area (or_right (ltb area_most area || leb area before) _ e),
)

pub record Passed (i : ℕ) (before : Option ℕ) (p : Point) (ps : List Point) : Type 0 where
  pub area : bad_area before p.area ≡ false
  pub limits : Limits p
  pub later : point_rows (suc i) (some p.area) ps ≡ gives tt

pub passed : (i : ℕ) (before : Option ℕ) (p : Point) (ps : List Point) → point_rows i before (p ∷ ps) ≡ gives tt →
    Passed i before p ps
unfolding point_rows bad_value bad_slope
passed i before p ps e =
    let after_3 = then_rest (row (bad_area before p.area) 3 i) _ e in
    let after_4 = then_rest (row (bad_value p.value) 4 i) _ after_3 in
    let area = row_passed (bad_area before p.area) 3 i _ e in
    let slope = row_passed (bad_slope p.slope) 5 i _ after_4 in
    record {
      area = area;
      limits = record {
        area = limit_of_row_3 before p.area area;
        value = ltb-false value_most p.value (row_passed (bad_value p.value) 4 i _ after_3);
        slope_low = ≤_of_lt_z_false (or_left _ (lt_z (pos slope_most) p.slope) slope);
        slope_high = ≤_of_lt_z_false (or_right (lt_z p.slope (neg_ℤ (pos slope_most))) _ slope);
      };
      later = then_rest (row (bad_slope p.slope) 5 i) _ after_4;
    }

pub neighbours : {i : ℕ} {p q : Point} {ps : List Point} → Limits p → Passed i (some p.area) q ps → Neighbours (between p q)
neighbours {p = p} {q = q} l m =
    let gap = gap_of_row_3 p.area q.area m.area in
    record { left = l; right = m.limits; ordered = gap.0; near = gap.1 }
