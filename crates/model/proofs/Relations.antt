-- The two relations between areas that hold inside each segment and join at the points: the values rise; the tangents lie below.
--   rising_spreads       on a rising curve a later area has no smaller value
--   Line, l under m      a line through a value at an area; the line l is not above the value of m
--   chord_of l m         the slope of their chord, between theirs (slope_≤_chord, chord_≤_slope)
--   curve_slope s x      the slope of a convex segment's curve at an area; line, its tangent there
--   no_tangent_falls     on a segment that rises too
--   Supports s x s' y    x is not after y, the tangent at each is not above the curve at the other, and the slopes do not fall
--   convex_spreads       on a convex curve all areas are so
-- Assumes nothing.
use mathlib.Core.Path.{◌≡◌}
use mathlib.Core.List.{List, [], ◌∷◌}
use mathlib.Core.Logic.{inl, inr}
use Prim.Native.Nat.{ℕ, ◌≤◌}
use native.Mathlib.Nat.{le_refl, le_trans, le_antisymm, le_of_lt}
use lib.IntN.{ℤ, pos, ◌-ℤ◌, +ℤ_invr}
use lib.Signed.{◌<ℤ◌}
use Rattle.exact.specs.Fraction.{Fraction, Proper, whole, ◌+ℚ◌, ◌-ℚ◌, ◌*ℚ◌, ◌/ℚ◌, ◌≈ℚ◌, ◌≤ℚ◌}
use Rattle.exact.proofs.Ring.{ring, terms}
use Rattle.exact.proofs.Order as Z
use Rattle.exact.proofs.Field.{field, ratios, ◌∷ℚ◌}
use Rattle.exact.proofs.Tests.{compare}
use Rattle.exact.proofs.Fractions as Q
use Rattle.exact.proofs.Fractions.{NonNeg, propers, positivity}
use Rattle.model.specs.Points.{Point, gradient, Segment, Shape, rising, convex, plain}
use Rattle.model.specs.Interpolant.{interpolant}
use Rattle.model.specs.Inner.{between, Good, Inside}
use Rattle.model.proofs.Segments.{distance, slope_at, segment_rises, segment_bends, distance_in}
use Rattle.model.proofs.Segments.{proper_gradient, left_slope_rises}
use Rattle.model.proofs.Segments.{interpolant_proper, interpolant_left, interpolant_right}
use Rattle.model.proofs.Walk.{Spreads}

distance_between : (s : Segment) (x y : ℕ) → distance s y -ℤ distance s x ≡ pos y -ℤ pos x
distance_between s x y = ring (pos s.left.area ∷ pos x ∷ pos y ∷ []) (search terms depth 20 fits 9999) tt

-- both segments give the value of the point between them
values_meet : {shape : Shape} {p q r : Point} → Good (plain shape) (between p q) → Good (plain shape) (between q r) →
    interpolant shape (between p q) q.area ≈ℚ interpolant shape (between q r) q.area
values_meet k k' = Q.≈_trans (search propers) (interpolant_right k).same (Q.≈_sym (interpolant_left k').same)

-- ---- rising

pub rising_spreads : Spreads (Good (plain rising)) (λ s x s' y. interpolant rising s x ≤ℚ interpolant rising s' y)
unfolding interpolant
rising_spreads =
    record {
      inside = λ {s} {x} {y} r r' h.
          (segment_rises s r.good).order (distance_in r) (distance_in r')
          (Z.≤_by (pos y -ℤ pos x) (distance_between s x y) (Z.nonneg_difference (Z.pos_≤_of_≤ h)));
      join = λ r r'. Q.≤_of_≈ (values_meet r.good r'.good);
      trans = λ r r' r''. Q.≤_trans (interpolant_proper r) (interpolant_proper r') (interpolant_proper r'');
    }

-- ---- lines: a value v at x, and a slope σ

pub record Line : Type 0 where
  pub x : ℤ
  pub v : Fraction
  pub σ : Fraction
  pub v_proper : Proper v
  pub σ_proper : Proper σ

abbrev pub height : Line → ℤ → Fraction
height l y = l.v +ℚ l.σ *ℚ whole (y -ℤ l.x)

infix 4 ◌under◌
abbrev pub ◌under◌ : Line → Line → Type 0
l under m = height l m.x ≤ℚ m.v

-- what the field tactic goes by
abbrev atoms : Line → List ℤ → List ℤ
atoms l ρ = l.v ∷ℚ l.σ ∷ℚ l.x ∷ ρ

own_height : (l : Line) → height l l.x ≈ℚ l.v
own_height l = field (atoms l []) (search ratios depth 20 fits 9999) tt

module _ (l m n : Line) where
  -- from l to n by way of m, and the turn at m
  by_way_of_m :
      n.v -ℚ height l n.x
      ≈ℚ (n.v -ℚ height m n.x) +ℚ (m.v -ℚ height l m.x) +ℚ (m.σ -ℚ l.σ) *ℚ whole (n.x -ℤ m.x)
  by_way_of_m = field (atoms l (atoms m (atoms n []))) (search ratios depth 30 fits 9999) tt

  under_trans : l under m → m under n → NonNeg ((m.σ -ℚ l.σ) *ℚ whole (n.x -ℤ m.x)) → l under n
  under_trans h k turn =
      Q.≤_by (search propers) (search propers) _ (search propers depth 9) by_way_of_m (search positivity depth 9)

-- the slope of the chord from l to m
abbrev pub chord_of : Line → Line → Fraction
chord_of l m = (m.v -ℚ l.v) /ℚ whole (m.x -ℤ l.x)

module _ (l m : Line) (lt : l.x <ℤ m.x) where
  pub chord_proper : Proper (chord_of l m)
  chord_proper = search positivity

  above_slope : chord_of l m -ℚ l.σ ≈ℚ (m.v -ℚ height l m.x) /ℚ whole (m.x -ℤ l.x)
  above_slope = field (atoms l (atoms m [])) (search ratios depth 20 fits 9999) tt

  pub slope_≤_chord : l under m → l.σ ≤ℚ chord_of l m
  slope_≤_chord h = Q.≤_by l.σ_proper chord_proper _ (search positivity) above_slope (search positivity)

  below_slope : m.σ -ℚ chord_of l m ≈ℚ (l.v -ℚ height m l.x) /ℚ whole (m.x -ℤ l.x)
  below_slope = field (atoms l (atoms m [])) (search ratios depth 20 fits 9999) tt

  pub chord_≤_slope : m under l → chord_of l m ≤ℚ m.σ
  chord_≤_slope k = Q.≤_by chord_proper m.σ_proper _ (search positivity) below_slope (search positivity)

  slopes_rise : l under m → m under l → l.σ ≤ℚ m.σ
  slopes_rise h k = Q.≤_trans l.σ_proper chord_proper m.σ_proper (slope_≤_chord h) (chord_≤_slope k)

-- a product of two differences is that of their opposites
opposites : (σ τ : Fraction) (x y : ℤ) → (σ -ℚ τ) *ℚ whole (x -ℤ y) ≈ℚ (τ -ℚ σ) *ℚ whole (y -ℤ x)
opposites σ τ x y = field (σ ∷ℚ τ ∷ℚ x ∷ y ∷ []) (search ratios depth 20 fits 9999) tt

-- ---- convex

abbrev pub curve_slope : Segment → ℕ → Fraction
curve_slope s x = slope_at s (distance s x)

pub curve_slope_proper : {s : Segment} {x : ℕ} → Inside (Good (plain convex)) s x → Proper (curve_slope s x)
curve_slope_proper {s} r = (segment_bends s r.good).proper (distance_in r)

abbrev pub line : {s : Segment} {x : ℕ} → Inside (Good (plain convex)) s x → Line
line {s} {x} r =
    let v = interpolant convex s x in
    record { x = pos x; v = v; σ = curve_slope s x; v_proper = interpolant_proper r; σ_proper = curve_slope_proper r }

-- the tangent at x is not above the curve at y
abbrev pub Under : Segment → ℕ → Segment → ℕ → Type 0
Under s x s' y = interpolant convex s x +ℚ curve_slope s x *ℚ whole (pos y -ℤ pos x) ≤ℚ interpolant convex s' y

pub record Supports (s : Segment) (x : ℕ) (s' : Segment) (y : ℕ) : Type 0 where
  pub order : x ≤ y
  pub rightwards : Under s x s' y
  pub leftwards : Under s' y s x
  pub slopes : curve_slope s x ≤ℚ curve_slope s' y

under_inside : {s : Segment} {x y : ℕ} → Inside (Good (plain convex)) s x → Inside (Good (plain convex)) s y → Under s x s y
unfolding interpolant
under_inside {s} r r' = rw distance_between at ((segment_bends s r.good).below (distance_in r) (distance_in r'))

-- both segments have the slope of the point between them
slopes_meet : {p q r : Point} → Good (plain convex) (between p q) → Good (plain convex) (between q r) →
    curve_slope (between p q) q.area ≈ℚ curve_slope (between q r) q.area
slopes_meet {p} {q} {r} k k' =
    Q.≈_trans (proper_gradient q) (segment_bends (between p q) k).at_right
    (Q.≈_sym (rw +ℤ_invr (segment_bends (between q r) k').at_left))

slopes_in : {s : Segment} {x y : ℕ} → Inside (Good (plain convex)) s x → Inside (Good (plain convex)) s y → x ≤ y →
    curve_slope s x ≤ℚ curve_slope s y
slopes_in {s} {x} {y} r r' h = elim (compare y x) [
  | inl (k, e) ↦ rw (le_antisymm h k) (Q.≤_of_≈ (Q.≈_refl (curve_slope s y)))
  | inr (k, e) ↦ slopes_rise (line r) (line r') (Z.pos_<_of_< k) (under_inside r r') (under_inside r' r)
]

-- Section 3.3 of the report (TR/10/83): a convex curve through rising data rises. Its slopes grow from the left one, which a
-- rising segment has at 0 or more.
pub no_tangent_falls : {s : Segment} {x : ℕ} → Inside (Good (plain convex)) s x → Good (plain rising) s →
    NonNeg (curve_slope s x)
no_tangent_falls {s} {x} r g =
    let end : Inside (Good (plain convex)) s s.left.area =
    record { good = r.good; low = le_refl _; high = le_of_lt r.good.ends.ordered } in
    let p = curve_slope_proper end in
    let at_left : curve_slope s s.left.area ≈ℚ gradient s.left = rw +ℤ_invr (segment_bends s r.good).at_left in
    let up = Q.nonneg_≈ p (proper_gradient s.left) at_left (left_slope_rises s g) in
    Q.nonneg_of_≤ (Q.≤_trans (search propers) p (curve_slope_proper r) (Q.≤_of_nonneg up) (slopes_in end r r.low))

pub convex_spreads : Spreads (Good (plain convex)) Supports
convex_spreads =
    record {
      inside = λ {s} {x} {y} r r' h.
          record {
            order = h;
            rightwards = under_inside r r';
            leftwards = under_inside r' r;
            slopes = slopes_in r r' h;
          };
      join = λ {q = q} r r'.
          let e = values_meet r.good r'.good in
          record {
            order = le_refl q.area;
            rightwards = Q.≤_of_≈ (Q.≈_trans (interpolant_proper r) (own_height (line r)) e);
            leftwards = Q.≤_of_≈ (Q.≈_trans (interpolant_proper r') (own_height (line r')) (Q.≈_sym e));
            slopes = Q.≤_of_≈ (slopes_meet r.good r'.good);
          };
      trans = λ r r' r'' h k.
          let l = line r in
          let m = line r' in
          let n = line r'' in
          let same = opposites m.σ n.σ l.x m.x in
          let turn = Q.nonneg_≈ (search propers) (search propers) same (search (positivity, Z.pos_≤_of_≤)) in
          record {
            order = le_trans h.order k.order;
            rightwards = under_trans l m n h.rightwards k.rightwards (search (positivity, Z.pos_≤_of_≤));
            leftwards = under_trans n m l k.leftwards h.leftwards turn;
            slopes = Q.≤_trans l.σ_proper m.σ_proper n.σ_proper h.slopes k.slopes;
          };
    }
