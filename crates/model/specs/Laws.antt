-- Document 01, "The words of the third demand", and document 02, items 4 and 8: an accepted curve, its areas, its exact values,
-- chords; and what is said there of the exact values. Proofs: proofs/Laws.antt, proofs/AsRead.antt.
-- Assumes nothing.
use Rattle.std.specs.Prelude.{ℕ, ◌-◌, ◌≤◌, ◌<◌, ◌≡◌, ◌↔◌, false, List, ◌∷◌, ◌++◌, map, ℤ, pos, neg_ℤ, ◌-ℤ◌}
use Rattle.exact.specs.Fraction.{Fraction, Proper, whole, ◌-ℚ◌, ◌/ℚ◌, ◌≈ℚ◌, ◌≤ℚ◌}
use Rattle.model.specs.Answer.{gives}
use Rattle.model.specs.Points.{value_most, Point, Segment, rising, convex, mirror, Rule, plain, mirrored, rule_of}
use Rattle.model.specs.Interpolant.{exact_curve}
use Rattle.model.specs.Check.{curve_rows}
use Rattle.model.specs.Read.{outside, exact_value, used_code}

-- item 4: between which numbers are the factors of a rule. A convex curve may go below 0, a concave one above 200,000.
abbrev pub least_factor : Rule → ℤ
least_factor (plain rising) = pos 0
least_factor (plain convex) = neg_ℤ (pos 200000)
least_factor (mirrored shape) = pos 0

abbrev pub most_factor : Rule → ℤ
most_factor (plain shape) = pos 200000
most_factor (mirrored rising) = pos 200000
most_factor (mirrored convex) = pos 400000

-- a curve that is accepted: none of Check's refusals applies to its points and its code
pub record Curve : Type 0 where
  pub points : List Point
  pub code : ℕ
  pub accepted : curve_rows points code ≡ gives tt

module _ (c : Curve) where
  -- a whole area from the first point's to the last point's, both included
  pub record Area (x : ℕ) : Type 0 where
    pub within : outside c.points x ≡ false

  -- item 8: the code by whose rule it is read
  abbrev pub read_code : ℕ
  read_code = used_code c.points c.code

  abbrev pub exact : ℕ → Fraction
  exact x = exact_value c.points read_code x

  -- in a segment the curve gives a point's value at its area; the denominator is above 0
  pub record Gives (s : Segment) (p : Point) : Type 0 where
    pub proper : Proper (exact_curve (rule_of read_code) s p.area)
    pub value : exact_curve (rule_of read_code) s p.area ≈ℚ whole (pos p.value)

  -- at a rated point the segments on both sides give the point's value: the segment of two neighbours p and q gives both
  abbrev pub SegmentsMeet : Type 0
  SegmentsMeet =
      (before after : List Point) (p q : Point) → c.points ≡ before ++ p ∷ q ∷ after →
      Gives (record { left = p; right = q }) p × Gives (record { left = p; right = q }) q

  -- a chord's slope: right value less left, over the distance between the areas
  abbrev pub chord_slope : ℕ → ℕ → Fraction
  chord_slope x y = (exact y -ℚ exact x) /ℚ whole (pos y -ℤ pos x)

  -- the slopes of two chords, of which the one to the right begins where the other ends or beyond, are in an order
  abbrev pub ChordsInOrder : (Fraction → Fraction → Type 0) → Type 0
  ChordsInOrder order =
      (x₁ x₂ x₃ x₄ : ℕ) → Area x₁ → Area x₂ → Area x₃ → Area x₄ → x₁ < x₂ → x₂ ≤ x₃ → x₃ < x₄ →
      Proper (chord_slope x₁ x₂) × Proper (chord_slope x₃ x₄) × order (chord_slope x₁ x₂) (chord_slope x₃ x₄)

  -- of two chords of a curve that is read as convex, the one to the right is at least as steep
  abbrev pub ConvexChords : Type 0
  ConvexChords = read_code ≡ 2 → ChordsInOrder (λ left right. left ≤ℚ right)

  -- of two chords of a concave curve, the one to the right has at most the slope of the other
  abbrev pub ConcaveChords : Type 0
  ConcaveChords = c.code ≡ 4 → ChordsInOrder (λ left right. right ≤ℚ left)

  -- item 4: a curve accepted under 3 (4) is, mirrored, accepted under 1 (2), and its exact values are 200,000 less the mirror's,
  -- by the rule of 1 (2)
  abbrev pub MirrorAccepted : Type 0
  MirrorAccepted =
      2 < c.code →
      (curve_rows (map mirror c.points) (c.code - 2) ≡ gives tt)
      × ((x : ℕ) → exact x ≡ whole (pos value_most) -ℚ exact_value (map mirror c.points) (c.code - 2) x)

  -- item 8: accepted under 1, it is read by the convex rule exactly where the same points are accepted under 2; under another
  -- code it is read by its own
  pub record ConvexFirst : Type 0 where
    pub rising : c.code ≡ 1 → (read_code ≡ 2) ↔ (curve_rows c.points 2 ≡ gives tt)
    pub other : (c.code ≡ 1 → ⊥) → read_code ≡ c.code
