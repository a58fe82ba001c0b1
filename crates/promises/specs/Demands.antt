-- The third demand, and what document 02, items 4, 5, 6 and 8, add to it. Proofs: proofs/Demands.antt, proofs/Steps.antt.
-- Assumes nothing.
use Rattle.std.specs.Prelude.{ℕ, ◌+◌, ◌*◌, ◌≤◌, ◌<◌, ◌≡◌, ◌⊎◌, List, ◌∷◌, ◌++◌, map, T, ℤ, pos, ◌+ℤ◌, ◌-ℤ◌, ◌≤ℤ◌}
use Rattle.exact.specs.Fraction.{Proper, whole, ◌+ℚ◌, ◌-ℚ◌, ◌≈ℚ◌, ◌≤ℚ◌}
use Rattle.exact.specs.Rounding.{half, even}
use Rattle.model.specs.Answer.{gives, refused}
use Rattle.model.specs.Points.{Point, rule_of}
use Rattle.model.specs.Check.{check_answer, on_lists}
use Rattle.model.specs.Laws.{least_factor, most_factor, Curve, Area, read_code, exact}
use Rattle.model.specs.Laws.{SegmentsMeet, ConvexChords, ConcaveChords, MirrorAccepted, ConvexFirst}
use Rattle.model.specs.Sheet.{entry_area}
use Rattle.desk_answer.specs.Desk.{desk_answer, desk_answer_two}
use Rattle.pair.specs.Pair.{Factors}
use Rattle.promises.specs.FactorRead.{FileOf, FactorRead, read_of, pair_of, sheet_of}

-- a curve is accepted when none of Check's refusals applies to its lists and shape code
abbrev pub CheckAccepts : Type 0
CheckAccepts =
    (areas values : List ℕ) (slopes : List ℤ) (code n : ℕ) →
    on_lists areas values slopes (λ ps. check_answer ps code) ≡ gives n →
    (c : Curve) × (c.code ≡ code) × (map (λ p. p.area) c.points ≡ areas)
    × (map (λ p. p.value) c.points ≡ values) × (map (λ p. p.slope) c.points ≡ slopes)

-- document 01, "The words of the third demand", and document 02, item 6: of three areas equally far apart, the second step is at
-- most so many units smaller (larger) than the first
module _ (units : ℕ) (c : Curve) where
  abbrev pub ConvexSteps : Type 0
  ConvexSteps =
      (x k : ℕ) (f₀ f₁ f₂ : ℤ) → 0 < k → FactorRead c x f₀ → FactorRead c (x + k) f₁ → FactorRead c (x + 2 * k) f₂ →
      (f₁ -ℤ f₀ -ℤ pos units) ≤ℤ (f₂ -ℤ f₁)

  abbrev pub ConcaveSteps : Type 0
  ConcaveSteps =
      (x k : ℕ) (f₀ f₁ f₂ : ℤ) → 0 < k → FactorRead c x f₀ → FactorRead c (x + k) f₁ → FactorRead c (x + 2 * k) f₂ →
      (f₂ -ℤ f₁) ≤ℤ (f₁ -ℤ f₀ +ℤ pos units)

-- a larger area never reads a smaller factor
abbrev pub Rises : Curve → Type 0
Rises c = (x y : ℕ) (f g : ℤ) → FactorRead c x f → FactorRead c y g → x ≤ y → f ≤ℤ g

-- item 6: one unit would not do
pub record OneUnitIsTooFew : Type 0 where
  pub convex : (c : Curve) × (c.code ≡ 2) × (ConvexSteps 1 c → ⊥)
  pub concave : (c : Curve) × (c.code ≡ 4) × (ConcaveSteps 1 c → ⊥)

-- the third demand, on an accepted curve
pub record ThirdDemand (c : Curve) : Type 0 where
  -- at a rated point the segments on both sides give the point's value
  pub segments_meet : SegmentsMeet c
  -- each area can be read: Read and Pair refuse none of them
  pub read_refuses_none : (x : ℕ) → Area c x → (f : ℤ) × (read_of c x ≡ gives f)
  pub pair_refuses_none : (form plan : ℕ) → Area c form → Area c plan → (r : Factors) × (pair_of c form plan ≡ gives r)
  -- Sheet, where every entry's area is one of them, refuses only by 8
  pub sheet_refuses_by_8 : (start step n : ℕ) → ((index : ℕ) → index < n → Area c (entry_area start step index)) →
      (number place : ℕ) → sheet_of c start step n ≡ refused number place → number ≡ 8
  -- and the desk readings only by 11
  pub desk_refuses_by_11 : (bytes : List ℕ) (x scratch : ℕ) → FileOf c bytes → Area c x →
      (number place : ℕ) → desk_answer bytes x scratch ≡ refused number place → number ≡ 11
  pub desk_two_refuses_by_11 : (bytes : List ℕ) (x scratch : ℕ) → FileOf c bytes → Area c x →
      (number place : ℕ) → desk_answer_two bytes x scratch ≡ refused number place → number ≡ 11
  -- each factor is at most half a unit off the exact value, whose denominator is above 0; half a unit off it is even (item 6)
  pub half_a_unit : (x : ℕ) (f : ℤ) → FactorRead c x f →
      Proper (exact c x) × (exact c x -ℚ half ≤ℚ whole f) × (whole f ≤ℚ exact c x +ℚ half)
  pub even_at_half : (x : ℕ) (f : ℤ) → FactorRead c x f →
      (whole f ≈ℚ exact c x -ℚ half) ⊎ (whole f ≈ℚ exact c x +ℚ half) → T (even f)
  -- the same area reads the same factor whichever call reads it
  pub same_factor : (x : ℕ) (f g : ℤ) → FactorRead c x f → FactorRead c x g → f ≡ g
  -- a rising curve never reads a smaller factor at a larger area, whichever curve it is read by (item 8)
  pub rising : c.code ≡ 1 → Rises c
  -- of three areas equally far apart on a curve read as convex, the second step is at most two units smaller than the first
  -- (items 6 and 8)
  pub convex_steps : read_code c ≡ 2 → ConvexSteps 2 c
  -- of two chords of a curve read as convex, the one to the right is at least as steep
  pub convex_chords : ConvexChords c
  -- item 8: which curves those are
  pub convex_first : ConvexFirst c
  -- document 02, item 4: a falling curve never reads a larger factor at a larger area
  pub falling : c.code ≡ 3 → (x y : ℕ) (f g : ℤ) → FactorRead c x f → FactorRead c y g → x ≤ y → g ≤ℤ f
  -- of three areas equally far apart on a concave curve, the second step is at most two units larger than the first (item 6)
  pub concave_steps : c.code ≡ 4 → ConcaveSteps 2 c
  -- of two chords of a concave curve, the one to the right has at most the slope of the other
  pub concave_chords : ConcaveChords c
  -- mirrored, a falling or concave curve is accepted as rising or convex
  pub mirror_accepted : MirrorAccepted c
  -- beyond document 01 and item 4: how far a factor is from 0
  pub ranged : (x : ℕ) (f : ℤ) → FactorRead c x f →
      (least_factor (rule_of c.code) ≤ℤ f) × (f ≤ℤ most_factor (rule_of c.code))
  -- and a factor read at a rated point is the point's value
  pub rated_factors : (before after : List Point) (p : Point) (f : ℤ) → c.points ≡ before ++ p ∷ after →
      FactorRead c p.area f → f ≡ pos p.value

-- item 8: the rising rule is for curves that are read as convex too
abbrev pub RisesAsConvex : Type 0
RisesAsConvex = (c : Curve) × (c.code ≡ 1) × (read_code c ≡ 2) × Rises c
