-- What contracts of inner functions cite. Nothing here need be believed.
--   chord_of                       a chord of the definitions, by its rise and gap
--   figure_between, figure_at_end  the figure between two chords; that at an end, of the chord there and the one beside it
-- Assumes nothing.
use Rattle.std.specs.Prelude.{ℕ, ℤ}
use Rattle.harmonic.specs.Rule.{inner_slope, end_slope, hundredths}
use Rattle.harmonic.specs.Inner.{Chord, slope_of, across}

abbrev pub chord_of : ℕ → ℕ → Chord
chord_of rise gap = record { rise = rise; gap = gap }

abbrev pub figure_between : Chord → Chord → ℤ
figure_between left right = hundredths (inner_slope (slope_of left) (slope_of right) (across left right))

abbrev pub figure_at_end : Chord → Chord → ℤ
figure_at_end own beside = hundredths (end_slope (slope_of own) (slope_of beside) (across own beside))
