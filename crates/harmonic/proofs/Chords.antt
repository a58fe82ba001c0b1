-- Chords of points that climb, and the slope at each point by its chords.
--   chord, is_chord    the chord that begins at an index
--   slope_of_two, slope_at_first, slope_at_last, slope_inside    the rule's cases
-- Assumes nothing.
use mathlib.Core.Path.{◌≡◌, refl, ◌∙◌, ap}
use mathlib.Core.List.{List}
use Prim.Native.Nat.{ℕ, suc, ◌+◌, ◌-◌, ◌<◌}
use native.Mathlib.Nat.{add_comm}
use native.Mathlib.Omega.{arith}
use borrow.Author.Tests.{eq-eqb, ne_eqb}
use lib.IntN.{pos, ◌-ℤ◌}
use lib.ListN.{length, get_or}
use Rattle.exact.specs.Fraction.{◌over◌}
use Rattle.exact.proofs.Order.{difference_of_≤}
use Rattle.harmonic.specs.Rule.{inner_slope, end_slope, chord_between, slope}
use Rattle.harmonic.specs.Inner.{Climbing, ChordAt, slope_of, across, Chord}

difference : (m n F : ℕ) → m ≡ n + F → pos m -ℤ pos n ≡ pos F
difference m n F e = difference_of_≤ {m = m} {n = n} (omega arith) ∙ ap pos (omega arith)

across_either_way : (c d : Chord) → across c d ≡ across d c
across_either_way c d = rw (add_comm c.rise d.rise, add_comm c.gap d.gap)

module _ (areas values : List ℕ) where
  abbrev pub chord : ℕ → Chord
  chord i = record { rise = get_or values (i + 1) 0 - get_or values i 0; gap = get_or areas (i + 1) 0 - get_or areas i 0 }

  between : (i j F h : ℕ) → get_or values j 0 ≡ get_or values i 0 + F → get_or areas j 0 ≡ get_or areas i 0 + h →
      chord_between areas values i j ≡ pos F over pos h
  unfolding chord_between
  between i j F h e f = rw (difference _ _ F e, difference _ _ h f)

-- ---- points that climb

module _ {areas values : List ℕ} (k : Climbing areas values) where
  pub is_chord : (i : ℕ) → i + 1 < length areas → ChordAt areas values i (chord areas values i)
  is_chord i h =
      let s = k.climbs i h in
      record {
        rise = refl;
        gap = refl;
        sized = record { rise = omega (arith, s.limit); some = omega (arith, s.ordered); gap = omega (arith, s.near) };
      }

  chord_slope : {c : Chord} (i j : ℕ) → j ≡ i + 1 → j < length areas → ChordAt areas values i c →
      chord_between areas values i j ≡ slope_of c
  chord_slope i j e h c =
      let s = k.climbs i (omega arith) in
      rw e (between areas values i (i + 1) _ _ (omega (arith, s.rises, c.rise)) (omega (arith, s.ordered, c.gap)))

  across_slope : {c d : Chord} (i m j : ℕ) → m ≡ i + 1 → j ≡ m + 1 → j < length areas →
      ChordAt areas values i c →
      ChordAt areas values m d →
      chord_between areas values i j ≡ across c d
  across_slope i m j e f h c d =
      let s = k.climbs i (omega arith) in
      let t = k.climbs (i + 1) (omega arith) in
      let d' = rw e at d in
      rw (f, e) (between areas values i (i + 1 + 1) _ _ (omega (arith, s.rises, t.rises, c.rise, d'.rise))
      (omega (arith, s.ordered, t.ordered, c.gap, d'.gap)))

  -- ---- the rule's cases

  pub slope_of_two : {c : Chord} (i : ℕ) → length areas ≡ 2 → ChordAt areas values 0 c → slope areas values i ≡ slope_of c
  unfolding slope
  slope_of_two i e c = rw (eq-eqb (length areas) 2 e) (chord_slope 0 1 (omega arith) (omega arith) c)

  module _ (more : length areas ≡ 2 → ⊥) {c d : Chord} (i : ℕ) where
    pub slope_at_first : i ≡ 0 → ChordAt areas values 0 c → ChordAt areas values 1 d →
        slope areas values i ≡ end_slope (slope_of c) (slope_of d) (across c d)
    unfolding slope
    slope_at_first e m n =
        let size = k.counted.least in
        rw (
          ne_eqb (length areas) 2 more,
          eq-eqb i 0 e,
          chord_slope 0 1 (omega arith) (omega arith) m,
          chord_slope 1 2 (omega arith) (omega arith) n,
          across_slope 0 1 2 (omega arith) (omega arith) (omega arith) m n,
        )

    pub slope_at_last : (g h : ℕ) → h ≡ g + 1 → i ≡ h + 1 → i + 1 ≡ length areas →
        ChordAt areas values h c →
        ChordAt areas values g d →
        slope areas values i ≡ end_slope (slope_of c) (slope_of d) (across c d)
    unfolding slope
    slope_at_last g h e f end m n =
        let before : i - 1 ≡ h = omega arith in
        let two_before : i - 2 ≡ g = omega arith in
        rw (
          ne_eqb (length areas) 2 more,
          ne_eqb i 0 (λ (z : i ≡ 0). omega arith),
          eq-eqb (suc i) (length areas) (omega arith),
          before,
          two_before,
          chord_slope h i f (omega arith) m,
          chord_slope g h e (omega arith) n,
          across_slope g h i e f (omega arith) n m,
          across_either_way d c,
        )

    pub slope_inside : (h : ℕ) → i ≡ h + 1 → i + 1 < length areas → ChordAt areas values h c → ChordAt areas values i d →
        slope areas values i ≡ inner_slope (slope_of c) (slope_of d) (across c d)
    unfolding slope
    slope_inside h e inner m n =
        let before : i - 1 ≡ h = omega arith in
        rw (
          ne_eqb (length areas) 2 more,
          ne_eqb i 0 (λ (z : i ≡ 0). omega arith),
          ne_eqb (suc i) (length areas) (λ (z : suc i ≡ length areas). omega arith),
          before,
          chord_slope h i e (omega arith) m,
          chord_slope i (suc i) (omega arith) (omega arith) n,
          across_slope h i (suc i) e (omega arith) (omega arith) m n,
        )
