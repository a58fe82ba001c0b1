-- The laws of an accepted curve, from the relations across it. Those that documents 01 and 02 (item 4) state of exact values:
-- segments_meet, convex_chords, concave_chords (specs/Laws.antt). Of factors, for the demands over every call:
--   factors_are_near      at most half a unit off; where it is exactly half a unit, even
--   factors_are_ranged    from least_factor to most_factor of the rule of its code; factors_are_bounded, from −200,000 to 400,000
--   rated_points_read     at a rated point the factor is the point's value
--   convex_steps          of three areas equally far apart, the second step is at most two units smaller, on a curve that is read
--                         as convex
--   rising_factors        a larger area never reads less, on a rising curve, whichever curve it is read by
--   factor_from_mirror    a falling or concave factor is 200,000 less the mirror's
--   falling_factors, concave_steps    so never more, at most two units larger
-- Assumes nothing.
use mathlib.Core.Path.{◌≡◌, sym, ◌∙◌, ap, subst}
use mathlib.Core.Bool.{false}
use mathlib.Core.List.{List, [], ◌∷◌, ◌++◌}
use mathlib.Core.Logic.{inl, inr}
use Prim.Native.Nat.{ℕ, zero, suc, ◌+◌, ◌*◌, ◌≤◌, ◌<◌}
use native.Mathlib.Nat.{le_of_lt, le_of_eq}
use native.Mathlib.Omega.{arith}
use lib.IntN.{ℤ, pos, neg_ℤ, ◌+ℤ◌, ◌-ℤ◌, ◌*ℤ◌}
use lib.ListN.{length, get_or, length-map, length-append, get_or-map}
use lib.Signed.{◌≤ℤ◌}
use Rattle.exact.specs.Fraction.{Fraction, Proper, whole, ◌+ℚ◌, ◌-ℚ◌, ◌*ℚ◌, ◌≈ℚ◌, ◌≤ℚ◌}
use Rattle.exact.specs.Rounding.{half, round, HalfEven}
use Rattle.exact.proofs.Ring.{ring, terms}
use Rattle.exact.proofs.Order as Z
use Rattle.exact.proofs.Field.{field, ratios, ◌∷ℚ◌}
use Rattle.exact.proofs.Fractions as Q
use Rattle.exact.proofs.Fractions.{propers, positivity}
use Rattle.exact.proofs.Rounding.{round_rounding, rounding_at_whole}
use Rattle.model.specs.Points.{value_most, Point, Segment, Shape, rising, convex, Rule, plain, rule_of}
use Rattle.model.specs.Interpolant.{interpolant, exact_curve}
use Rattle.model.specs.Read as R
use Rattle.model.specs.Read.{outside, exact_value, reading}
use Rattle.model.specs.Laws.{least_factor, most_factor, Curve, Area, read_code, exact, SegmentsMeet}
use Rattle.model.specs.Laws.{chord_slope, ConvexChords, ConcaveChords}
use Rattle.model.specs.Inner.{Accepted, origin, point_at, segment_at, areas_of, Good, Inside, Taken}
use Rattle.model.proofs.ClosedForm.{Closed}
use Rattle.model.proofs.Curves.{≤_of_closed}
use Rattle.model.proofs.Codes.{rule_of_1, rule_of_2}
use Rattle.exact.proofs.Tests.{compare}
use Rattle.model.proofs.Walk.{good_ordered}
use Rattle.model.proofs.Mirror.{value_most_even, curve_proper, curve_left, curve_right}
use Rattle.model.proofs.Range.{≤_of_sum, Between, value_range, rising_convex_range, Within, reading_range}
use Rattle.model.proofs.Range.{least_of_all, most_of_all}
use Rattle.model.proofs.Relations.{rising_spreads, curve_slope, curve_slope_proper, no_tangent_falls, Supports, convex_spreads}
use Rattle.model.proofs.Relations.{Line, ◌under◌, chord_proper, chord_≤_slope, slope_≤_chord}
use Rattle.model.proofs.Indexed.{Chained, chained_at, stop_in, across_chained, point_at_append, segment_at_append}
use Rattle.model.proofs.MirrorCurve.{mirror_accepted, mirror_curve, mirror_area}
use Rattle.model.proofs.Accepted.{count_of, chained_of, stops_inside, value_is, value_at_index}
use Rattle.model.proofs.AsRead.{convex_too, own, used, used_own, used_accepted}

-- ---- a curve by the rule of a code under which it is accepted

module _ {ps : List Point} {code : ℕ} (k : Accepted ps code) where
  proper_by : (x : ℕ) → outside ps x ≡ false → Proper (exact_value ps code x)
  proper_by x o = rw (value_is k x) (curve_proper (stops_inside k x o))

  -- of a known shape
  module _ {shape : Shape} (e : rule_of code ≡ plain shape) where
    value_as : (x : ℕ) → exact_value ps code x ≡ interpolant shape (stop_in ps x) x
    unfolding exact_curve
    value_as x = value_is k x ∙ ap (λ (r : Rule). exact_curve r (stop_in ps x) x) e

    chained_as : Chained (Good (plain shape)) ps
    chained_as = subst (λ (r : Rule). Chained (Good r) ps) e (chained_of k)

    inside_as : (x : ℕ) → outside ps x ≡ false → Inside (Good (plain shape)) (stop_in ps x) x
    inside_as x o = subst (λ (r : Rule). Inside (Good r) (stop_in ps x) x) e (stops_inside k x o)

-- ---- a curve as it is read

module _ (c : Curve) where
  pub curve_accepted : Accepted c.points c.code
  curve_accepted = record { none_applies = c.accepted }

  -- under the code by which it is read too
  read_accepted : Accepted c.points (read_code c)
  read_accepted = used_accepted curve_accepted

  abbrev pub factor : ℕ → ℤ
  factor x = R.factor c.points c.code x

  abbrev rule : Rule
  rule = rule_of (read_code c)

  -- the segment that an area takes
  abbrev segment_taken : ℕ → Segment
  segment_taken x = stop_in c.points x

  segment_inside : (x : ℕ) → Area c x → Inside (Good rule) (segment_taken x) x
  segment_inside x k = stops_inside read_accepted x k.within

  good_at : (i : ℕ) → suc i < length c.points → Good rule (segment_at c.points i)
  good_at = chained_at (Good rule) good_ordered (chained_of read_accepted)

-- ---- values and factors

pub values_are_proper : (c : Curve) (x : ℕ) → Area c x → Proper (exact c x)
values_are_proper c x k = proper_by (read_accepted c) x k.within

pub factors_are_near : (c : Curve) (x : ℕ) → Area c x → HalfEven (exact c x) (factor c x)
unfolding reading R.factor
factors_are_near c x k = round_rounding.nearest (exact c x) (values_are_proper c x k)

-- on a curve that is convex too the least value is that of its own code
values_are_ranged : (c : Curve) (x : ℕ) → Area c x →
    Between (least_factor (rule_of c.code)) (most_factor (rule_of c.code)) (exact c x)
values_are_ranged c x k = elim (used c.points c.code) [
  | convex_too e a u ↦
      let r = inside_as (read_accepted c) (rule_of_2 u) x k.within in
      let g = (inside_as (curve_accepted c) (rule_of_1 e) x k.within).good in
      rw (rule_of_1 e, value_as (read_accepted c) (rule_of_2 u) x) (rising_convex_range r g)
  | own u ↦ rw (value_is (read_accepted c) x, u) (value_range (rw u at (segment_inside c x k)))
]

pub factors_are_ranged : (c : Curve) (x : ℕ) → Area c x →
    Within (least_factor (rule_of c.code)) (most_factor (rule_of c.code)) (factor c x)
unfolding reading R.factor
factors_are_ranged c x k = reading_range round_rounding (exact c x) (values_are_proper c x k) (values_are_ranged c x k)

pub factors_are_bounded : (c : Curve) (x : ℕ) → Area c x → Within (neg_ℤ (pos 200000)) (pos 400000) (factor c x)
factors_are_bounded c x k =
    let r = factors_are_ranged c x k in
    let rule = rule_of c.code in
    record { low = Z.≤_trans (least_of_all rule) r.low; high = Z.≤_trans r.high (most_of_all rule) }

-- ---- rated points

pub segments_meet : (c : Curve) → SegmentsMeet c
segments_meet c before after p q e =
    let n = ap length e ∙ length-append before (p ∷ q ∷ after) in
    let s = ap (λ (ps : List Point). segment_at ps (length before)) e ∙ segment_at_append before after p q in
    let g = subst (Good (rule c)) s (good_at c (length before) (omega arith)) in
    let l = curve_left g in
    let r = curve_right g in
    (record { proper = l.proper; value = l.same }, record { proper = r.proper; value = r.same })

module _ (c : Curve) where
  -- the area at an index, in the list of areas
  areas_at : (i : ℕ) → get_or (areas_of c.points) i 0 ≡ (point_at c.points i).area
  areas_at i = get_or-map (λ p. p.area) c.points i origin

  areas_length : length (areas_of c.points) ≡ length c.points
  areas_length = length-map c.points (λ p. p.area)

  -- the value at the area of the point at an index is the point's
  abbrev Rated : ℕ → Type 0
  Rated i = let p = point_at c.points i in Closed (exact c p.area) (whole (pos p.value))

  -- any point but the last is the left end of the segment that its area takes
  rated_left : (i : ℕ) → suc i < length c.points → Rated i
  rated_left i n =
      let g = good_at c i n in
      let taken : Taken (areas_of c.points) i (point_at c.points i).area = record {
        reached = record { inner = rw areas_length n; low = le_of_eq (areas_at i) };
        high = inl (rw (areas_at (suc i)) g.ends.ordered);
      } in
      rw (value_at_index (read_accepted c) taken) (curve_left g)

  -- the last is the right end of the last segment
  rated_right : (k : ℕ) → suc (suc k) ≡ length c.points → Rated (suc k)
  rated_right k e =
      let n : suc k < length c.points = omega arith in
      let g = good_at c k n in
      let taken : Taken (areas_of c.points) k (point_at c.points (suc k)).area = record {
        reached = record { inner = rw areas_length n; low = rw (areas_at k) (le_of_lt g.ends.ordered) };
        high = inr (e ∙ sym areas_length);
      } in
      rw (value_at_index (read_accepted c) taken) (curve_right g)

  rated_last : (i : ℕ) → suc i ≡ length c.points → Rated i
  rated_last zero e = absurd (let n = (count_of (curve_accepted c)).0 in omega arith)
  rated_last (suc k) e = rated_right k e

  rated_value : (i : ℕ) → i < length c.points → Rated i
  rated_value i h =
      elim (compare (length c.points) (suc i)) [
        | inl (k, t) ↦ rated_last i (omega arith)
        | inr (k, t) ↦ rated_left i k
      ]

pub rated_points_read : (c : Curve) (before after : List Point) (p : Point) → c.points ≡ before ++ p ∷ after →
    factor c p.area ≡ pos p.value
unfolding reading R.factor
rated_points_read c before after p e =
    let n = ap length e ∙ length-append before (p ∷ after) in
    let is = ap (λ (ps : List Point). point_at ps (length before)) e ∙ point_at_append before after p in
    let v = rw is at (rated_value c (length before) (omega arith)) in
    rounding_at_whole round_rounding (pos p.value) v.proper v.same

-- ---- convex

module _ (c : Curve) (e : read_code c ≡ 2) where
  -- the slope at x, and the relation between two areas
  abbrev σ : ℕ → Fraction
  σ x = curve_slope (segment_taken c x) x

  supports_across : (x y : ℕ) → Area c x → Area c y → x ≤ y → Supports (segment_taken c x) x (segment_taken c y) y
  supports_across x y kx ky h =
      across_chained (Good (plain convex)) good_ordered convex_spreads (chained_as (read_accepted c) (rule_of_2 e)) x y
      kx.within ky.within h

  σ_proper : (x : ℕ) → Area c x → Proper (σ x)
  σ_proper x k = curve_slope_proper (inside_as (read_accepted c) (rule_of_2 e) x k.within)

  abbrev tangent_at : (x : ℕ) → Area c x → Line
  tangent_at x k =
      record { x = pos x; v = exact c x; σ = σ x; v_proper = values_are_proper c x k; σ_proper = σ_proper x k }

  -- the tangent at x is nowhere above the curve
  tangent_under : (x z : ℕ) (kx : Area c x) (kz : Area c z) → tangent_at x kx under tangent_at z kz
  tangent_under x z kx kz =
      rw (value_as (read_accepted c) (rule_of_2 e) x, value_as (read_accepted c) (rule_of_2 e) z)
      (elim (compare x z) [
        | inl (h, t) ↦ (supports_across x z kx kz h).rightwards
        | inr (h, t) ↦ (supports_across z x kz kx (le_of_lt h)).leftwards
      ])

chord_slope_proper : (c : Curve) (x y : ℕ) → Area c x → Area c y → x < y → Proper (chord_slope c x y)
chord_slope_proper c x y kx ky h =
    let p = values_are_proper c x kx in
    let q = values_are_proper c y ky in
    search (positivity, Z.pos_<_of_<)

-- the chord to the left, the slopes at its right end and at the other's left end, the chord to the right
pub convex_chords : (c : Curve) → ConvexChords c
convex_chords c e x₁ x₂ x₃ x₄ k₁ k₂ k₃ k₄ h m h' =
    let l = tangent_at c e in
    let q₂ = σ_proper c e x₂ k₂ in
    let q₃ = σ_proper c e x₃ k₃ in
    let p = chord_proper (l x₁ k₁) (l x₂ k₂) (Z.pos_<_of_< h) in
    let p' = chord_proper (l x₃ k₃) (l x₄ k₄) (Z.pos_<_of_< h') in
    let to_left = chord_≤_slope (l x₁ k₁) (l x₂ k₂) (Z.pos_<_of_< h) (tangent_under c e x₂ x₁ k₂ k₁) in
    let to_right = slope_≤_chord (l x₃ k₃) (l x₄ k₄) (Z.pos_<_of_< h') (tangent_under c e x₃ x₄ k₃ k₄) in
    (p, p', Q.≤_trans p q₂ p' to_left (Q.≤_trans q₂ q₃ p' (supports_across c e x₂ x₃ k₂ k₃ m).slopes to_right))

-- of three areas equally far apart, twice the middle value is at most the sum of the outer ones
module _ (v₀ v₁ v₂ s : Fraction) (x k : ℤ) (p₀ : Proper v₀) (p₁ : Proper v₁) (p₂ : Proper v₂) (q : Proper s) where
  twice_middle_≤ : v₁ +ℚ s *ℚ whole (x -ℤ (x +ℤ k)) ≤ℚ v₀ →
      v₁ +ℚ s *ℚ whole ((x +ℤ pos 2 *ℤ k) -ℤ (x +ℤ k)) ≤ℚ v₂ →
      whole (pos 2) *ℚ v₁ ≤ℚ v₀ +ℚ v₂
  twice_middle_≤ h m =
      Q.≤_by (search propers) (search propers)
      ((v₀ -ℚ (v₁ +ℚ s *ℚ whole (x -ℤ (x +ℤ k)))) +ℚ (v₂ -ℚ (v₁ +ℚ s *ℚ whole ((x +ℤ pos 2 *ℤ k) -ℤ (x +ℤ k)))))
      (search propers depth 9)
      (field
      (v₀ ∷ℚ v₁ ∷ℚ v₂ ∷ℚ s ∷ℚ x ∷ k ∷ [])
      (search ratios depth 30 fits 9999) tt)
      (Q.nonneg_+ (search propers) (search propers) (Q.nonneg_difference h) (Q.nonneg_difference m))

-- three roundings, each at most half a unit off
convex_rounded : {v₀ v₁ v₂ : Fraction} {r₀ r₁ r₂ : ℤ} → Proper v₀ → Proper v₁ → Proper v₂ →
    HalfEven v₀ r₀ → HalfEven v₁ r₁ → HalfEven v₂ r₂ →
    whole (pos 2) *ℚ v₁ ≤ℚ v₀ +ℚ v₂ → (r₁ -ℤ r₀ -ℤ pos 2) ≤ℤ (r₂ -ℤ r₁)
convex_rounded {v₀} {v₁} {v₂} {r₀} {r₁} {r₂} p₀ p₁ p₂ k₀ k₁ k₂ m =
    let q : Proper half = search positivity in
    let l₀ = k₀.low in
    let h₁ = k₁.high in
    let l₂ = k₂.low in
    Q.≤_of_whole_≤ _ _
    (Q.≤_by (search propers) (search propers)
    ((whole r₀ -ℚ (v₀ -ℚ half)) +ℚ ((whole r₂ -ℚ (v₂ -ℚ half)) +ℚ (whole (pos 2) *ℚ (v₁ +ℚ half -ℚ whole r₁)
    +ℚ (v₀ +ℚ v₂ -ℚ whole (pos 2) *ℚ v₁)))) (search propers depth 9)
    (field (v₀ ∷ℚ v₁ ∷ℚ v₂ ∷ℚ r₀ ∷ r₁ ∷ r₂ ∷ []) (search ratios depth 30 fits 9999) tt)
    (search positivity depth 9))

-- three areas equally far apart
module _ (c : Curve) (x k : ℕ) (k₀ : Area c x) (k₁ : Area c (x + k)) (k₂ : Area c (x + 2 * k)) where
  p₀ : Proper (exact c x)
  p₀ = values_are_proper c x k₀

  p₁ : Proper (exact c (x + k))
  p₁ = values_are_proper c (x + k) k₁

  p₂ : Proper (exact c (x + 2 * k))
  p₂ = values_are_proper c (x + 2 * k) k₂

  convex_middle : read_code c ≡ 2 → whole (pos 2) *ℚ exact c (x + k) ≤ℚ exact c x +ℚ exact c (x + 2 * k)
  convex_middle e =
      twice_middle_≤ _ _ _ _ (pos x) (pos k) p₀ p₁ p₂ (σ_proper c e (x + k) k₁)
      (tangent_under c e (x + k) x k₁ k₀) (tangent_under c e (x + k) (x + 2 * k) k₁ k₂)

pub convex_steps : (c : Curve) → read_code c ≡ 2 → (x k : ℕ) → Area c x → Area c (x + k) → Area c (x + 2 * k) →
    (factor c (x + k) -ℤ factor c x -ℤ pos 2) ≤ℤ (factor c (x + 2 * k) -ℤ factor c (x + k))
convex_steps c e x k k₀ k₁ k₂ =
    let p = values_are_proper c in
    let near = factors_are_near c in
    convex_rounded (p x k₀) (p (x + k) k₁) (p (x + 2 * k) k₂) (near x k₀) (near (x + k) k₁) (near (x + 2 * k) k₂)
    (convex_middle c x k k₀ k₁ k₂ e)

-- ---- rising

-- the rising curve, through whatever points rise
rising_readings : {ps : List Point} {code : ℕ} (k : Accepted ps code) → rule_of code ≡ plain rising → (x y : ℕ) →
    outside ps x ≡ false → outside ps y ≡ false → x ≤ y → reading ps code x ≤ℤ reading ps code y
unfolding reading
rising_readings k e x y kx ky h =
    round_rounding.keeps_order _ _ (proper_by k x kx) (proper_by k y ky)
    (rw (value_as k e x, value_as k e y)
    (across_chained (Good (plain rising)) good_ordered rising_spreads (chained_as k e) x y kx ky h))

-- the convex curve, where no tangent falls
rising_as_convex : (c : Curve) → c.code ≡ 1 → read_code c ≡ 2 → (x y : ℕ) → Area c x → Area c y → x ≤ y →
    factor c x ≤ℤ factor c y
unfolding reading R.factor
rising_as_convex c e u x y kx ky h =
    let r = inside_as (read_accepted c) (rule_of_2 u) x kx.within in
    let g = (inside_as (curve_accepted c) (rule_of_1 e) x kx.within).good in
    let up = no_tangent_falls r g in
    let p = values_are_proper c x kx in
    let q = values_are_proper c y ky in
    let s = σ_proper c u x kx in
    round_rounding.keeps_order _ _ p q
    (≤_of_sum p (search propers) q (tangent_under c u x y kx ky) (search (positivity, Z.pos_≤_of_≤)))

pub rising_factors : (c : Curve) → c.code ≡ 1 → (x y : ℕ) → Area c x → Area c y → x ≤ y → factor c x ≤ℤ factor c y
unfolding R.factor
rising_factors c e x y kx ky h = elim (used c.points c.code) [
  | convex_too _ _ u ↦ rising_as_convex c e u x y kx ky h
  | own u ↦ rw u (rising_readings (curve_accepted c) (rule_of_1 e) x y kx.within ky.within h)
]

-- ---- falling and concave: rising and convex, mirrored

module _ (c : Curve) (m : 2 < c.code) where
  abbrev mirror : Curve
  mirror = mirror_curve c m

  -- by the mirror's own code, whatever curve it is read by
  pub factor_from_mirror : (x : ℕ) → Area c x → factor c x ≡ pos value_most -ℤ reading mirror.points mirror.code x
  unfolding reading R.factor
  factor_from_mirror x k =
      let p = proper_by (curve_accepted mirror) x (mirror_area c m x k).within in
      ap round ((mirror_accepted c m).1 x) ∙ round_rounding.from_even (pos value_most) value_most_even _ p

-- what is taken off stands on the other side
≤_from : {a b : ℤ} (m : ℤ) → a ≤ℤ b → (m -ℤ b) ≤ℤ (m -ℤ a)
≤_from {a} {b} m h = Z.≤_by (b -ℤ a) (ring (a ∷ b ∷ m ∷ []) (search terms depth 20 fits 9999) tt) (Z.nonneg_difference h)

pub falling_factors : (c : Curve) → c.code ≡ 3 → (x y : ℕ) → Area c x → Area c y → x ≤ y → factor c y ≤ℤ factor c x
falling_factors c e x y kx ky h =
    let m : 2 < c.code = omega arith in
    let k = curve_accepted (mirror c m) in
    rw (factor_from_mirror c m x kx, factor_from_mirror c m y ky)
    (≤_from (pos value_most)
    (rising_readings k (rule_of_1 (omega arith)) x y (mirror_area c m x kx).within (mirror_area c m y ky).within h))

-- the mirror of a concave curve is read by its own code
module _ (c : Curve) (e : c.code ≡ 4) where
  abbrev bent : Curve
  bent = mirror c (omega arith)

  bent_code : read_code bent ≡ bent.code
  bent_code = used_own bent.points bent.code (λ o. omega arith)

  bent_2 : read_code bent ≡ 2
  bent_2 = bent_code ∙ omega arith

  exact_is : (x : ℕ) → exact c x ≡ whole (pos value_most) -ℚ exact bent x
  exact_is x = rw bent_code ((mirror_accepted c (omega arith)).1 x)

  factor_is : (x : ℕ) → Area c x → factor c x ≡ pos value_most -ℤ factor bent x
  unfolding R.factor
  factor_is x k = rw bent_code (factor_from_mirror c (omega arith) x k)

  -- the slope of a chord changes sign
  chord_flips : (x y : ℕ) → chord_slope c x y ≈ℚ whole (pos 0) -ℚ chord_slope bent x y
  chord_flips x y =
      rw (exact_is x, exact_is y)
      (field (exact bent x ∷ℚ exact bent y ∷ℚ pos x ∷ pos y ∷ []) (search ratios depth 30 fits 9999) tt)

pub concave_chords : (c : Curve) → ConcaveChords c
concave_chords c e x₁ x₂ x₃ x₄ k₁ k₂ k₃ k₄ h m h' =
    let a = mirror_area c (omega arith) in
    let p = chord_slope_proper c x₁ x₂ k₁ k₂ h in
    let p' = chord_slope_proper c x₃ x₄ k₃ k₄ h' in
    let (q, q', o) = convex_chords (bent c e) (bent_2 c e) x₁ x₂ x₃ x₄ (a x₁ k₁) (a x₂ k₂) (a x₃ k₃) (a x₄ k₄) h m h' in (
      p,
      p',
      ≤_of_closed (record { proper = p'; same = chord_flips c e x₃ x₄ }) (record { proper = p; same = chord_flips c e x₁ x₂ })
          (search propers) (search propers) (Q.≤_from q q' (search propers) o),
    )

steps_from : (f₀ f₁ f₂ m : ℤ) → (f₁ -ℤ f₀ -ℤ pos 2) ≤ℤ (f₂ -ℤ f₁) →
    ((m -ℤ f₂) -ℤ (m -ℤ f₁)) ≤ℤ ((m -ℤ f₁) -ℤ (m -ℤ f₀) +ℤ pos 2)
steps_from f₀ f₁ f₂ m h =
    Z.≤_by ((f₂ -ℤ f₁) -ℤ (f₁ -ℤ f₀ -ℤ pos 2)) (ring (f₀ ∷ f₁ ∷ f₂ ∷ m ∷ []) (search terms depth 20 fits 9999) tt)
    (Z.nonneg_difference h)

pub concave_steps : (c : Curve) → c.code ≡ 4 → (x k : ℕ) → Area c x → Area c (x + k) → Area c (x + 2 * k) →
    (factor c (x + 2 * k) -ℤ factor c (x + k)) ≤ℤ (factor c (x + k) -ℤ factor c x +ℤ pos 2)
concave_steps c e x k k₀ k₁ k₂ =
    let a = mirror_area c (omega arith) in
    let f = factor (bent c e) in
    rw (factor_is c e x k₀, factor_is c e (x + k) k₁, factor_is c e (x + 2 * k) k₂)
    (steps_from (f x) (f (x + k)) (f (x + 2 * k)) (pos value_most)
    (convex_steps (bent c e) (bent_2 c e) x k (a x k₀) (a (x + k) k₁) (a (x + 2 * k) k₂)))
