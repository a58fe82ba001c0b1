-- The figure at each point of points that climb.
--   Kind, kind     the rule's case at a point, with the chords that it reads
--   Regular        a slope with a denominator above 0 that is not negative; regular, each slope is
--   not_negative   no figure is below 0; level, a figure beside a flat chord is 0
-- Assumes nothing.
use mathlib.Core.Path.{◌≡◌, ◌∙◌, ap}
use mathlib.Core.List.{List}
use mathlib.Core.Logic.{◌⊎◌, inl, inr}
use Prim.Native.Nat.{ℕ, ◌+◌, ◌-◌, ◌<◌}
use native.Mathlib.Nat.{zero-mul, mul-zero, zero-div, eq-zero-or-pos}
use native.Mathlib.Omega.{arith}
use lib.IntN.{pos}
use lib.ListN.{length}
use lib.Signed.{◌≤ℤ◌, ◌<ℤ◌}
use Rattle.exact.specs.Fraction.{Fraction, Proper, whole, ◌*ℚ◌}
use Rattle.exact.specs.Rounding.{floor_div, floor}
use Rattle.model.specs.Shape.{0ℚ}
use Rattle.exact.proofs.Tests.{compare}
use Rattle.exact.proofs.Order as Z
use Rattle.exact.proofs.Fractions.{NonNeg, positivity}
use Rattle.harmonic.specs.Rule.{inner_slope, end_slope, hundredths, slope, figure}
use Rattle.harmonic.specs.Inner.{Climbing, Sized, slope_of, across, Chord}
use Rattle.harmonic.proofs.Quotients.{is_flat, not_flat, chord_figure, inner_flat, end_flat}
use Rattle.harmonic.proofs.Chords.{chord, is_chord, slope_of_two, slope_at_first, slope_at_last, slope_inside}

-- ---- the rule's cases

-- the chord that begins at j is beside the point at i
abbrev pub BesidePoint : ℕ → ℕ → Type 0
BesidePoint j i = (j ≡ i) ⊎ (j + 1 ≡ i)

module _ (areas values : List ℕ) (i : ℕ) where
  abbrev c : ℕ → Chord
  c = chord areas values

  abbrev Only : (ℕ → Type 0) → Type 0
  Only P = (j : ℕ) → j + 1 < length areas → BesidePoint j i → P j

  data Kind : Type 0 where
    single : (own : ℕ) → Sized (c own) → slope areas values i ≡ slope_of (c own) → Only (λ j. j ≡ own) → Kind
    at_end : (own other : ℕ) → Sized (c own) → Sized (c other) →
        slope areas values i ≡ end_slope (slope_of (c own)) (slope_of (c other)) (across (c own) (c other)) →
        Only (λ j. j ≡ own) →
        Kind
    between : (left right : ℕ) → Sized (c left) → Sized (c right) →
        slope areas values i ≡ inner_slope (slope_of (c left)) (slope_of (c right)) (across (c left) (c right)) →
        Only (λ j. (j ≡ left) ⊎ (j ≡ right)) →
        Kind

module _ {areas values : List ℕ} (k : Climbing areas values) where
  sized : (i : ℕ) → i + 1 < length areas → Sized (chord areas values i)
  sized i h = (is_chord k i h).sized

  kind : (i : ℕ) → i < length areas → Kind areas values i
  kind i h =
      let least = k.counted.least in
      elim (eq-zero-or-pos (length areas - 2)) [
        | inl two ↦
            let e : length areas ≡ 2 = omega arith in
            single 0 (sized 0 (omega arith)) (slope_of_two k i e (is_chord k 0 (omega arith))) (λ j b _. omega arith)
        | inr more ↦
            let m : length areas ≡ 2 → ⊥ = λ e. omega arith in
            elim (eq-zero-or-pos i) [
              | inl first ↦
                  at_end 0 1 (sized 0 (omega arith)) (sized 1 (omega arith))
                  (slope_at_first k m i first (is_chord k 0 (omega arith)) (is_chord k 1 (omega arith)))
                  (λ j b side. elim side [ inl e ↦ omega arith | inr e ↦ omega arith ])
              | inr later ↦
                  elim (compare (i + 2) (length areas)) [
                    | inl (inner, t) ↦
                        between (i - 1) i (sized (i - 1) (omega arith)) (sized i (omega arith))
                        (slope_inside k m i (i - 1) (omega arith) (omega arith) (is_chord k (i - 1) (omega arith))
                        (is_chord k i (omega arith)))
                        (λ j b side. elim side [ inl e ↦ inr e | inr e ↦ inl (omega arith) ])
                    | inr (end, t) ↦
                        at_end (i - 1) (i - 2) (sized (i - 1) (omega arith)) (sized (i - 2) (omega arith))
                        (slope_at_last k m i (i - 2) (i - 1) (omega arith) (omega arith) (omega arith)
                        (is_chord k (i - 1) (omega arith)) (is_chord k (i - 2) (omega arith)))
                        (λ j b side. elim side [ inl e ↦ omega arith | inr e ↦ omega arith ])
                  ]
            ]
      ]

-- ---- each slope is a proper fraction, and not negative

pub record Regular (x : Fraction) : Type 0 where
  pub proper : Proper x
  pub nonneg : NonNeg x

regular_0 : Regular 0ℚ
regular_0 = record { proper = search positivity; nonneg = search positivity }

regular_chord : {c : Chord} → Sized c → Regular (slope_of c)
regular_chord {c} m =
    let h = Z.pos_<_of_< m.some in
    record { proper = search positivity; nonneg = search positivity }

module _ {c d : Chord} (m : Sized c) (n : Sized d) where
  regular_across : Regular (across c d)
  regular_across =
      let h : pos 0 <ℤ pos (c.gap + d.gap) = Z.pos_<_of_< (omega (arith, m.some)) in
      record { proper = search positivity; nonneg = search positivity }

  -- the first chord is flat, or only the second, or neither
  by_rises : {A : Type 0} →
      (c.rise ≡ 0 → A) →
      (0 < c.rise → d.rise ≡ 0 → A) →
      (0 < c.rise → 0 < d.rise → A) →
      A
  by_rises first second neither =
      elim (eq-zero-or-pos c.rise) [
        | inl z ↦ first z
        | inr up ↦ elim (eq-zero-or-pos d.rise) [ inl z ↦ second up z | inr up' ↦ neither up up' ]
      ]

  regular_end : Regular (end_slope (slope_of c) (slope_of d) (across c d))
  unfolding end_slope
  regular_end =
      let rc = regular_chord m in
      let rd = regular_chord n in
      let ra = regular_across in
      by_rises
      (λ z. rw (is_flat c.rise c.gap z) regular_0)
      (λ up z.
      rw (not_flat c.rise c.gap up, is_flat d.rise d.gap z)
      (record { proper = search positivity; nonneg = search positivity }))
      (λ up up'.
      let above = Z.pos_<_of_< up' in
      rw (not_flat c.rise c.gap up, not_flat d.rise d.gap up')
      (record { proper = search positivity; nonneg = search positivity }))

  regular_inner : Regular (inner_slope (slope_of c) (slope_of d) (across c d))
  unfolding inner_slope
  regular_inner =
      let rc = regular_chord m in
      let rd = regular_chord n in
      let ra = regular_across in
      by_rises
      (λ z. rw (is_flat c.rise c.gap z) regular_0)
      (λ up z. rw (not_flat c.rise c.gap up, is_flat d.rise d.gap z) regular_0)
      (λ up up'.
      let above : pos 0 <ℤ pos (c.rise + d.rise) = Z.pos_<_of_< (omega arith) in
      rw (not_flat c.rise c.gap up, not_flat d.rise d.gap up')
      (record { proper = search positivity; nonneg = search positivity }))

-- ---- figures

module _ {areas values : List ℕ} (k : Climbing areas values) where
  pub regular : (i : ℕ) → i < length areas → Regular (slope areas values i)
  regular i h =
      elim (kind k i h) [
        | single own m e _ ↦ rw e (regular_chord m)
        | at_end own other m n e _ ↦ rw e (regular_end m n)
        | between left right m n e _ ↦ rw e (regular_inner m n)
      ]

  pub not_negative : (i : ℕ) → i < length areas → pos 0 ≤ℤ figure areas values i
  unfolding hundredths floor floor_div whole ◌*ℚ◌
  not_negative i h =
      let n = Z.pos_of_nonneg (regular i h).nonneg.sign in
      rw n.1 (Z.nonneg_pos _)

  -- one lemma carries that a filled curve rises
  pub level : (i j : ℕ) → i < length areas → j + 1 < length areas → BesidePoint j i → (chord areas values j).rise ≡ 0 →
      figure areas values i ≡ pos 0
  level i j h b side flat =
      elim (kind k i h) [
        | single own m e only ↦
            let z = rw (only j b side) at flat in
            ap hundredths e ∙ chord_figure _ _ ∙ (rw (z, zero-mul 100, zero-div))
        | at_end own other m n e only ↦ ap hundredths e ∙ end_flat _ _ _ _ (rw (only j b side) at flat)
        | between left right m n e only ↦
            ap hundredths e
            ∙ inner_flat _ _ _ _
            (elim (only j b side) [
              | inl s ↦ let z = rw s at flat in rw z (zero-mul _)
              | inr s ↦ let z = rw s at flat in rw z (mul-zero _)
            ])
      ]
