-- The shape of a segment by the tests of the code. A signed number is read back from its bits where it is tested.
--   bad_code_unless  a code that is none of 1 to 4; code_of_shape, that of a shape is one
--   climbing_shape  shape 1 where the value rises: no slope is below 0; climbing_test, as a test
--   level_shape     where it stays: both slopes are 0; level_test, as a test
--   descending_shape   where it falls: no
--   falling_test    shape 3 is shape 1 of the mirrored segment
--   order_test      shape 2: left slope below chord and chord below right slope, or all three equal, as a test
--   convex_test     of the slopes of a segment; concave_test, of the mirrored segment: the same slopes from right to left
--   mirrored_slope, mirrored_chord   which are those of the segment with their signs changed
--   mirrored_rise   the mirrored points rise by what the value falls
-- Assumes nothing.
use mathlib.Core.Path.{◌≡◌, refl, ◌∙◌, ap₂}
use mathlib.Core.Bool.{Bool, true, false, cond, ◌&&◌, ◌||◌, or-false, and-false, and_comm}
use mathlib.Core.List.{[], ◌∷◌}
use mathlib.Core.Logic.{inl, inr}
use Prim.Native.Nat.{ℕ, ◌≤◌, ◌<◌}
use native.Mathlib.Omega.{arith}
use lib.Dec.{T, eqb}
use lib.IntN.{ℤ, pos, neg_ℤ, ◌-ℤ◌, ◌*ℤ◌, *ℤ_comm, +ℤ_invr}
use lib.Signed.{le_z, lt_z}
use mir.Syntax.{w32}
use mir.Val.{SFits, to_z, of_z}
use Rattle.exact.specs.Inner.{eqZ}
use Rattle.exact.specs.Fraction.{◌over◌, whole, leℚ, ltℚ, eqℚ}
use Rattle.exact.proofs.Bits.{zero_fits, lt_bits, eq_bits}
use Rattle.exact.proofs.Integer.{*_one}
use Rattle.exact.proofs.Ring.{ring, terms}
use Rattle.exact.proofs.Order as Z
use Rattle.exact.proofs.Tests.{true_or_false, le_z_not_lt_z, same_test, T_true}
use Rattle.model.specs.Points.{Point, gradient, Segment, rising, convex, mirror, mirror_segment, rule_of}
use Rattle.model.specs.Shape.{rises, bends, fits, has_shape, segment_test}
use Rattle.model.specs.Check.{bad_code}
use Rattle.model.specs.Inner.{Neighbours}
use Rattle.model.proofs.Rows.{code_of_row_2}
use Rattle.model.proofs.Curves.{climbs, flat, rise_kind}
use Rattle.model.proofs.Segments.{gap, rise, e₀, g, e₁}
use Rattle.point.proofs.Figures.{slope_fits, slope_read}
use Rattle.shape.specs.Inner.{SlopesOver, in_order}
use Rattle.shape.specs.declared.Slopes.{Slopes}
use Rattle.shape.specs.declared.Shape as code
use Rattle.shape.specs.declared.Shape.TheVariants.{Rising, Convex, Falling, Concave}
use Rattle.shape.specs.Codes.{code_of}
use Rattle.shape.proofs.Codes.{rule_of_falling}

abbrev bits : ℤ → ℕ
bits z = of_z w32 z

abbrev read_back : ℤ → ℤ
read_back z = to_z w32 (bits z)

or_as_cond : (t x y : Bool) → (t ≡ true → y ≡ false) → (t && x || y) ≡ cond t x y
or_as_cond true x y h = rw (h refl) (or-false x)
or_as_cond false x y h = refl

-- ---- row 2

pub bad_code_unless : (code : ℕ) → (1 ≤ code → code ≤ 4 → ⊥) → bad_code code ≡ true
bad_code_unless code n = elim (true_or_false (bad_code code)) [
  | inl e ↦ e
  | inr e ↦ let k = code_of_row_2 code e in absurd (n k.0 k.1)
]

pub code_of_shape : (shape : code.Shape) → bad_code (code_of shape) ≡ false
unfolding bad_code
code_of_shape Rising = refl
code_of_shape Convex = refl
code_of_shape Falling = refl
code_of_shape Concave = refl

-- ---- shape 1, by what the value does

module _ (s : Segment) where
  pub climbing_shape : s.left.value < s.right.value →
      has_shape rising s ≡ (le_z (pos 0) s.left.slope && le_z (pos 0) s.right.slope)
  unfolding has_shape fits rises gradient leℚ ltℚ eqℚ whole ◌over◌
  climbing_shape h =
      let up : lt_z (pos 0) (rise s) ≡ true = T_true _ (Z.positive_difference (Z.pos_<_of_< h)).lt in
      rw (*_one (rise s), *_one s.left.slope, *_one s.right.slope, le_z_not_lt_z (rise s) (pos 0), up) (or-false _)

  pub level_shape : s.left.value ≡ s.right.value →
      has_shape rising s ≡ (eqZ s.left.slope (pos 0) && eqZ s.right.slope (pos 0))
  unfolding has_shape fits rises gradient leℚ ltℚ eqℚ whole ◌over◌
  level_shape e =
      let level : rise s ≡ pos 0 = rw e (+ℤ_invr (pos s.right.value)) in
      rw (level, *_one s.left.slope, *_one s.right.slope)

  pub descending_shape : s.right.value < s.left.value → has_shape rising s ≡ false
  unfolding has_shape fits
  descending_shape h = same_test _ false falls absurd
    where
      falls : T (has_shape rising s) → ⊥
      falls t =
          elim (rise_kind (gap s) (pos s.left.value) (pos s.right.value) t) [
            | climbs up k₀ k₁ ↦ let k : s.left.value < s.right.value = Z.<_of_pos_< (Z.<_by (rise s) refl up) in omega arith
            | flat e _ ↦ let k : s.right.value ≡ s.left.value = Z.pos_injective e in omega arith
          ]

-- ---- as tests of machine numbers

module _ {s : Segment} (n : Neighbours s) where
  pub climbing_test : s.left.value < s.right.value →
      has_shape rising s ≡ (le_z (pos 0) (read_back s.left.slope) && le_z (pos 0) (read_back s.right.slope))
  climbing_test h = rw (slope_read n.left, slope_read n.right) (climbing_shape s h)

  pub level_test : s.left.value ≡ s.right.value →
      has_shape rising s ≡ (eqb (bits s.left.slope) 0 && eqb (bits s.right.slope) 0)
  level_test e =
      rw (eq_bits (slope_fits n.left) (zero_fits w32), eq_bits (slope_fits n.right) (zero_fits w32)) (level_shape s e)

-- ---- shape 3, by the mirrored points

pub mirrored_rise : {s : Segment} → Neighbours s → rise (mirror_segment s) ≡ pos s.left.value -ℤ pos s.right.value
unfolding mirror
mirrored_rise {s} n =
    rw (← Z.difference_of_≤ n.left.value, ← Z.difference_of_≤ n.right.value)
    (ring (pos s.left.value ∷ pos s.right.value ∷ []) (search terms depth 20 fits 9999) tt)

pub falling_test : (s : Segment) → segment_test (rule_of 3) s ≡ has_shape rising (mirror_segment s)
unfolding segment_test
falling_test s = rw rule_of_falling

-- ---- shape 2: the order of the slopes

pub order_test : {a b c : ℤ} → SFits w32 a → SFits w32 b → SFits w32 c →
    in_order a b c ≡
    cond (lt_z (read_back a) (read_back b)) (lt_z (read_back b) (read_back c)) (eqb (bits a) (bits b) && eqb (bits b) (bits c))
order_test {a} {b} {c} fa fb fc =
    rw (lt_bits fa fb, lt_bits fb fc)
    (rw (eq_bits fa fb, eq_bits fb fc)
    (or_as_cond (lt_z a b) _ _ (λ e. rw (le_z_not_lt_z b a, e, and-false (le_z a b)))))

convex_order : (s : Segment) → has_shape convex s ≡ in_order (e₀ s) (g s) (e₁ s)
unfolding has_shape fits bends gradient leℚ ltℚ eqℚ ◌over◌
convex_order s = rw (*ℤ_comm s.left.slope (gap s), *ℤ_comm (rise s) (pos 100), *ℤ_comm s.right.slope (gap s))

-- with their signs changed, from right to left
order_negated : (a b c : ℤ) → in_order (neg_ℤ a) (neg_ℤ b) (neg_ℤ c) ≡ in_order c b a
order_negated a b c =
    rw (Z.lt_z_negated a b, Z.lt_z_negated b c, Z.le_z_negated a b, Z.le_z_negated b a, Z.le_z_negated b c, Z.le_z_negated c b)
    (ap₂ (λ x y. x || y) (and_comm (lt_z b a) (lt_z c b)) (and_comm (eqZ b a) (eqZ c b)))

module _ {s : Segment} (n : Neighbours s) where
  pub mirrored_slope : (p : Point) → gap s *ℤ neg_ℤ p.slope ≡ neg_ℤ (gap s *ℤ p.slope)
  mirrored_slope p = ring (gap s ∷ p.slope ∷ []) (search terms depth 20 fits 9999) tt

  pub mirrored_chord : g (mirror_segment s) ≡ neg_ℤ (g s)
  unfolding mirror
  mirrored_chord =
      rw (← Z.difference_of_≤ n.left.value, ← Z.difference_of_≤ n.right.value)
      (ring (pos s.left.value ∷ pos s.right.value ∷ []) (search terms depth 20 fits 9999) tt)

  module _ {e : Slopes} (k : SlopesOver s e) where
    pub convex_test : has_shape convex s ≡ in_order e.left e.chord e.right
    convex_test = rw (k.left, k.chord, k.right) (convex_order s)

    pub concave_test : has_shape convex (mirror_segment s) ≡ in_order e.right e.chord e.left
    unfolding mirror
    concave_test =
        rw (k.left, k.chord, k.right)
        (convex_order (mirror_segment s)
        ∙ rw (mirrored_slope s.left, mirrored_slope s.right, mirrored_chord) (order_negated (e₀ s) (g s) (e₁ s)))
