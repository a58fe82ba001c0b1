-- Document 02, item 2: what is proved of the filling. Proofs: proofs/Laws.antt.
-- Assumes nothing.
use Rattle.std.specs.Prelude.{ℕ, ◌-◌, ◌<◌, ◌≡◌, List, ℤ, pos, length, get_or, ◌≤ℤ◌}
use Rattle.exact.specs.Fraction.{Proper, whole, ◌*ℚ◌}
use Rattle.exact.specs.Rounding.{Greatest}
use Rattle.model.specs.Answer.{gives}
use Rattle.model.specs.Check.{check_answer, on_lists}
use Rattle.harmonic.specs.Rule.{slope}
use Rattle.harmonic.specs.Fill.{fill_answer, slopes_after}

-- what holds of a filling that gives n points
pub record FilledAsRising (areas values : List ℕ) (slopes : List ℤ) (n : ℕ) : Type 0 where
  -- the filled curve always passes as rising: Check gives the number of its segments
  pub passes : on_lists areas values (slopes_after areas values slopes) (λ ps. check_answer ps 1) ≡ gives (n - 1)
  -- each slope is the rule's, a fraction whose denominator is above 0, rounded down to a hundredth
  pub proper : (i : ℕ) → i < n → Proper (slope areas values i)
  pub rounded_down : (i : ℕ) → i < n →
      Greatest (slope areas values i *ℚ whole (pos 100)) (get_or (slopes_after areas values slopes) i (pos 0))
  -- beyond document 02: no slope is negative
  pub not_negative : (i : ℕ) → i < n → pos 0 ≤ℤ get_or (slopes_after areas values slopes) i (pos 0)
  -- and filling again gives the same list
  pub again : fill_answer areas values (length (slopes_after areas values slopes)) ≡ gives n
  pub same : slopes_after areas values (slopes_after areas values slopes) ≡ slopes_after areas values slopes

abbrev pub FilledSlopes : Type 0
FilledSlopes =
    (areas values : List ℕ) (slopes : List ℤ) (n : ℕ) → fill_answer areas values (length slopes) ≡ gives n →
    FilledAsRising areas values slopes n
