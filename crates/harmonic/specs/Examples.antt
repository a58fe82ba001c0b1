-- Fillings by computation: areas and values, each with the answer and the slope list after it. The list holds −7 before.
-- Assumes nothing.
use Rattle.std.specs.Prelude.{ℕ, ◌≡◌, List, [], ◌∷◌, map, ℤ, pos, neg_ℤ, length, replicate}
use Rattle.model.specs.Answer.{Answer, gives, refused}
use Rattle.harmonic.specs.Fill.{fill_answer, slopes_after}

abbrev pub fills : List ℕ → List ℕ → Answer ℕ × List ℤ
fills areas values =
    let slopes = replicate (length areas) (neg_ℤ (pos 7)) in
    (fill_answer areas values (length slopes), slopes_after areas values slopes)

-- n figures
abbrev pub gives_figures : List ℕ → Answer ℕ × List ℤ
gives_figures figures = (gives (length figures), map (λ n. pos n) figures)

abbrev pub FillExamples : Type 0
FillExamples =
    -- a level stretch
    (fills (0 ∷ 10 ∷ 30 ∷ 35 ∷ []) (0 ∷ 10 ∷ 10 ∷ 40 ∷ []) ≡ gives_figures (200 ∷ 0 ∷ 0 ∷ 1200 ∷ []))
    -- rounded once: chords rounded first would give 43 for 44
    × (fills (0 ∷ 3 ∷ 6 ∷ 10 ∷ []) (0 ∷ 1 ∷ 3 ∷ 3 ∷ []) ≡ gives_figures (25 ∷ 44 ∷ 0 ∷ 0 ∷ []))
    -- weighted: an unweighted harmonic mean would give 150 for 120
    × (fills (0 ∷ 10 ∷ 40 ∷ []) (0 ∷ 10 ∷ 100 ∷ []) ≡ gives_figures (83 ∷ 120 ∷ 750 ∷ []))
    -- a rise of less than a hundredth a tenth
    × (fills (0 ∷ 2000 ∷ 4000 ∷ []) (0 ∷ 1 ∷ 2 ∷ []) ≡ gives_figures (0 ∷ 0 ∷ 0 ∷ []))
    -- the two points' chord is too steep: refused, and the list is as found
    × (fills (0 ∷ 1 ∷ []) (0 ∷ 101 ∷ []) ≡ (refused 5 0, neg_ℤ (pos 7) ∷ neg_ℤ (pos 7) ∷ []))
    -- five points, by hand: chords 1/2, 1, 2 and 1
    × (fills (0 ∷ 2 ∷ 4 ∷ 6 ∷ 10 ∷ []) (0 ∷ 1 ∷ 3 ∷ 7 ∷ 11 ∷ []) ≡ gives_figures (37 ∷ 66 ∷ 133 ∷ 150 ∷ 66 ∷ []))
    -- five points: the third segment falls, which comes before the first slope, 101
    × (fills (0 ∷ 1 ∷ 2 ∷ 3 ∷ 4 ∷ []) (0 ∷ 101 ∷ 202 ∷ 150 ∷ 160 ∷ [])
    ≡ (refused 6 2, replicate 5 (neg_ℤ (pos 7))))
