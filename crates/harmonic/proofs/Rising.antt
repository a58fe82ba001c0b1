-- Rows 3 to 6 of a rising curve, by its areas and values: slopes that suit the values decide none of them.
--   Suits              slopes from 0 to 10,000, and 0 at both ends of a level segment
--   rising_rows        rows 1 to 6 of points with such slopes are rows 1, 3, 4 and 6
--   zero_slope_size, zero_slope_at    points with slopes that are all 0; zero_slope_rows, rows 1 to 6 of them
--   climbing_of        what these rows leave
-- Assumes nothing.
use mathlib.Core.Path.{◌≡◌, refl, sym, ◌∙◌}
use mathlib.Core.Bool.{Bool, false, not, not-not}
use mathlib.Core.List.{List, [], ◌∷◌}
use mathlib.Core.Logic.{inl, inr}
use mathlib.Core.Option.{Option, none, some}
use Prim.Native.Nat.{ℕ, zero, suc, ◌+◌, ◌-◌, ◌<◌}
use native.Mathlib.Numerals.{add-one}
use native.Mathlib.Omega.{arith}
use borrow.Author.Tests.{lt-ltb, le-ltb, ltb-false}
use lib.Dec.{ltb}
use lib.IntN.{ℤ, pos}
use lib.ListN.{length, get_or, replicate, length-replicate, get_or-replicate}
use lib.Signed.{◌≤ℤ◌, le_z}
use Rattle.exact.proofs.Order as Z
use Rattle.exact.proofs.Tests.{compare, true_or_false, T_true}
use Rattle.model.specs.Answer.{gives, row, ◌then◌, row_at_each}
use Rattle.model.specs.Points.{slope_most, Point, points, Segment, segments, rising, Rule, plain, rule_of}
use Rattle.model.specs.Shape.{has_shape, segment_test}
use Rattle.model.specs.Check.{bad_count, bad_code, bad_slope, point_rows, segment_rows, curve_rows}
use Rattle.model.specs.Inner.{Accepted, Alike, between, point_at, Good}
use Rattle.model.proofs.Codes.{rule_of_1}
use Rattle.model.proofs.Rows.{then_rest, count_of_row_1}
use Rattle.model.proofs.Places.{each_fails}
use Rattle.model.proofs.Walk.{good_ordered}
use Rattle.model.proofs.Indexed.{chained_at}
use Rattle.model.proofs.Accepted.{count_of, chained_of}
use Rattle.model.proofs.Lists.{Fields, fields_of, fields_length, fields_at}
use Rattle.shape.proofs.Tests.{climbing_shape, level_shape, descending_shape}
use Rattle.rows.specs.Inner.{segments_from}
use Rattle.rows.proofs.Faults.{segment_turn, segment_end}
use Rattle.harmonic.specs.Inner.{zero_slope_points, rated_rows, Climbing}
use Rattle.harmonic.specs.Fill.{area_and_value_rows, falls}

pub record Suits (values : List ℕ) (slopes : List ℤ) : Type 0 where
  pub least : (i : ℕ) → i < length slopes → pos 0 ≤ℤ get_or slopes i (pos 0)
  pub most : (i : ℕ) → i < length slopes → get_or slopes i (pos 0) ≤ℤ pos slope_most
  pub level : (i : ℕ) → i + 1 < length values → get_or values i 0 ≡ get_or values (i + 1) 0 →
      (get_or slopes i (pos 0) ≡ pos 0) × (get_or slopes (i + 1) (pos 0) ≡ pos 0)

-- ---- rows 3 to 5

in_range : (s : ℤ) → pos 0 ≤ℤ s → s ≤ℤ pos slope_most → bad_slope s ≡ false
unfolding bad_slope
in_range s h k =
    let n = Z.pos_of_nonneg h in
    rw n.1 (le-ltb slope_most n.0 (Z.≤_of_pos_≤ (rw n.1 at k)))

rows_3_to_5 : (i : ℕ) (before : Option ℕ) (areas values : List ℕ) (slopes : List ℤ) →
    length areas ≡ length values → length areas ≡ length slopes →
    ((j : ℕ) → j < length slopes → bad_slope (get_or slopes j (pos 0)) ≡ false) →
    point_rows i before (points areas values slopes) ≡ area_and_value_rows i before areas values
unfolding points point_rows area_and_value_rows row ◌then◌
rows_3_to_5 i before [] values slopes e f good = refl
rows_3_to_5 i before (a ∷ areas) [] slopes e f good = absurd (omega arith)
rows_3_to_5 i before (a ∷ areas) (v ∷ values) [] e f good = absurd (omega arith)
rows_3_to_5 i before (a ∷ areas) (v ∷ values) (s ∷ slopes) e f good =
    rw (
      good 0 (omega arith),
      rows_3_to_5 (suc i) (some a) areas values slopes (omega arith) (omega arith) (λ j h. good (suc j) (omega arith)),
    )

-- ---- row 6

module _ (ps : List Point) (rule : Rule) (shapeless : ℕ → Bool)
    (is : (i : ℕ) → i + 1 < length ps →
    segment_test rule (between (point_at ps i) (point_at ps (i + 1))) ≡ not (shapeless i)) where
  rows_from : (m i : ℕ) → i + m + 1 ≡ length ps → segments_from ps rule i ≡ row_at_each shapeless 6 i m
  unfolding row_at_each
  rows_from zero i e = segment_end ps rule i (omega arith)
  rows_from (suc m) i e =
      let h : i + 1 < length ps = omega arith in
      let later = rows_from m (i + 1) (omega arith) in
      sym (segment_turn ps rule i _ _ h refl refl (sym (is i h)))
      ∙ (rw (not-not (shapeless i), later, add-one i))

-- a segment between such slopes rises unless it falls
rises : (s : Segment) → pos 0 ≤ℤ s.left.slope → pos 0 ≤ℤ s.right.slope →
    (s.left.value ≡ s.right.value → (s.left.slope ≡ pos 0) × (s.right.slope ≡ pos 0)) →
    has_shape rising s ≡ not (ltb s.right.value s.left.value)
rises s h k flat =
    elim (compare s.left.value s.right.value) [
      | inr (down, t) ↦ rw (lt-ltb s.right.value s.left.value down) (descending_shape s down)
      | inl (not-down, t) ↦
          rw (le-ltb s.right.value s.left.value not-down)
          (elim (compare (suc s.left.value) s.right.value) [
            | inl (up, t) ↦ climbing_shape s up
                ∙ (rw (T_true (le_z (pos 0) s.left.slope) h.le, T_true (le_z (pos 0) s.right.slope) k.le))
            | inr (not-up, t) ↦
                let e : s.left.value ≡ s.right.value = omega arith in
                level_shape s e ∙ (rw ((flat e).0, (flat e).1))
          ])
    ]

-- ---- rows 1 to 6

module _ (areas values : List ℕ) (slopes : List ℤ) (alike : Alike (length areas) (length values) (length slopes))
    (suits : Suits values slopes) where
  abbrev ps : List Point
  ps = points areas values slopes

  size : length ps ≡ length areas
  size = fields_length (fields_of areas values slopes alike)

  rises_at : (i : ℕ) → i + 1 < length ps →
      segment_test (plain rising) (between (point_at ps i) (point_at ps (i + 1))) ≡ not (falls values i)
  unfolding falls segment_test
  rises_at i h =
      let fields = fields_of areas values slopes alike in
      let next : suc i ≡ i + 1 = omega arith in
      let e = size in
      rw (fields_at fields i, fields_at fields (i + 1), next)
      (rises _ (suits.least i (omega arith)) (suits.least (i + 1) (omega arith)) (suits.level i (omega arith)))

  rows_3_to_6 : 0 < length areas →
      (point_rows 0 none ps then segment_rows 0 (plain rising) (segments ps)) ≡ rated_rows areas values
  rows_3_to_6 any =
      let good : (j : ℕ) → j < length slopes → bad_slope (get_or slopes j (pos 0)) ≡ false =
      λ j h. in_range _ (suits.least j h) (suits.most j h) in
      let first = rows_3_to_5 0 none areas values slopes alike.values_too alike.slopes_too good in
      let second = rows_from ps (plain rising) (falls values) rises_at (length areas - 1) 0 (omega (arith, size)) in
      rw (first, second)

  pub rising_rows : curve_rows ps 1 ≡ (row (bad_count (length areas)) 1 0 then rated_rows areas values)
  unfolding curve_rows bad_code row ◌then◌
  rising_rows =
      rw (size, rule_of_1 {code = 1} refl)
      (elim (true_or_false (bad_count (length areas))) [
        | inl e ↦ rw e
        | inr e ↦ let n = (count_of_row_1 _ e).0 in rw e (rows_3_to_6 (omega arith))
      ])

-- ---- slopes that are all 0

zeros_suit : (values : List ℕ) (n : ℕ) → length values ≡ n → Suits values (replicate n (pos 0))
zeros_suit values n e =
    let size = length-replicate n (pos 0) in
    let zero_at : (i : ℕ) → i < n → get_or (replicate n (pos 0)) i (pos 0) ≡ pos 0 = λ i h. get_or-replicate n i (pos 0)
    (pos 0) h in
    record {
      least = λ i h. rw (zero_at i (omega arith)) (Z.nonneg_pos 0);
      most = λ i h. rw (zero_at i (omega arith)) (Z.nonneg_pos slope_most);
      level = λ i h _. (zero_at i (omega arith), zero_at (i + 1) (omega arith));
    }

module _ (areas values : List ℕ) (e : length areas ≡ length values) where
  zeros_alike : Alike (length areas) (length values) (length (replicate (length areas) (pos 0)))
  zeros_alike = record { values_too = e; slopes_too = sym (length-replicate (length areas) (pos 0)) }

  zero_slope_fields : Fields (zero_slope_points areas values) areas values (replicate (length areas) (pos 0))
  zero_slope_fields = fields_of areas values _ zeros_alike

  pub zero_slope_size : length (zero_slope_points areas values) ≡ length areas
  zero_slope_size = fields_length zero_slope_fields

  pub zero_slope_at : (i : ℕ) → i < length areas →
      point_at (zero_slope_points areas values) i ≡ record { area = get_or areas i 0; value = get_or values i 0; slope = pos 0 }
  zero_slope_at i h = fields_at zero_slope_fields i ∙ (rw (get_or-replicate (length areas) i (pos 0) (pos 0) h))

  pub zero_slope_rows : curve_rows (zero_slope_points areas values) 1
      ≡ (row (bad_count (length areas)) 1 0 then rated_rows areas values)
  zero_slope_rows = rising_rows areas values _ zeros_alike (zeros_suit values (length areas) (sym e))

  pub climbing_of : curve_rows (zero_slope_points areas values) 1 ≡ gives tt → Climbing areas values
  unfolding falls
  climbing_of pass =
      let k : Accepted (zero_slope_points areas values) 1 = record { none_applies = pass } in
      let rated = then_rest (row (bad_count (length areas)) 1 0) _ (sym zero_slope_rows ∙ pass) in
      let level = then_rest (area_and_value_rows 0 none areas values) _ rated in
      let n = rw zero_slope_size at (count_of k) in
      record {
        counted = record { same_length = e; least = n.0; most = n.1 };
        climbs = λ i h.
            let good = chained_at (Good (rule_of 1)) good_ordered (chained_of k) i (omega (arith, zero_slope_size)) in
            let ends = rw (zero_slope_at i (omega arith), zero_slope_at (suc i) (omega arith), ← add-one i) at good.ends in
            record {
              ordered = ends.ordered;
              near = ends.near;
              rises = ltb-false _ _ (rw (add-one i) (each_fails (falls values) 6 _ i level (omega arith)));
              limit = ends.right.value;
            };
      }
