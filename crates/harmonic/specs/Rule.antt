-- Document 02, item 2: the slopes of a rising curve by the harmonic rule of source document 001, chapter 3: its third method,
-- (3.3.5), with the means H of (3.3.2). Chord slopes are fractions.
-- Assumes nothing.
use Rattle.std.specs.Prelude.{ℕ, suc, ◌-◌, cond, ◌||◌, List, eqb, ℤ, pos, ◌-ℤ◌, length, get_or}
use Rattle.exact.specs.Fraction.{Fraction, ◌over◌, whole, ◌*ℚ◌, ◌/ℚ◌, eqℚ}
use Rattle.exact.specs.Rounding.{floor}
use Rattle.model.specs.Shape.{0ℚ}
use Rattle.model.specs.Sheet.{tabulate}

-- an inner slope: the product of the two chord slopes beside it over the chord slope across both, and 0 if either is 0
unfoldable pub inner_slope : Fraction → Fraction → Fraction → Fraction
inner_slope left right across = cond (eqℚ left 0ℚ || eqℚ right 0ℚ) 0ℚ (left *ℚ right /ℚ across)

-- the first slope: the first chord slope times the slope across the first two segments over the second chord slope; 0 if the
-- first chord is flat, and twice the first chord slope if only the second is flat. The last mirrors the first.
unfoldable pub end_slope : Fraction → Fraction → Fraction → Fraction
end_slope first second across =
    cond (eqℚ first 0ℚ) 0ℚ (cond (eqℚ second 0ℚ) (whole (pos 2) *ℚ first) (first *ℚ across /ℚ second))

-- rounded down to a hundredth: a slope's figure
unfoldable pub hundredths : Fraction → ℤ
hundredths slope = floor (slope *ℚ whole (pos 100))

module _ (areas values : List ℕ) where
  -- the slope of the chord from the point at i to the point at j
  unfoldable pub chord_between : ℕ → ℕ → Fraction
  chord_between i j =
      (pos (get_or values j 0) -ℤ pos (get_or values i 0)) over (pos (get_or areas j 0) -ℤ pos (get_or areas i 0))

  -- the slope at the point at i: of two points, of the first, of the last, of an inner one
  unfoldable pub slope : ℕ → Fraction
  slope i =
      cond (eqb (length areas) 2) (chord_between 0 1)
      (cond (eqb i 0) (end_slope (chord_between 0 1) (chord_between 1 2) (chord_between 0 2))
      (cond (eqb (suc i) (length areas))
      (end_slope (chord_between (i - 1) i) (chord_between (i - 2) (i - 1)) (chord_between (i - 2) i))
      (inner_slope (chord_between (i - 1) i) (chord_between i (suc i)) (chord_between (i - 1) (suc i)))))

  abbrev pub figure : ℕ → ℤ
  figure i = hundredths (slope i)

  -- a figure for each point
  abbrev pub figures : List ℤ
  figures = tabulate figure 0 (length areas)
