-- What is proved of the numbers of the C interface. Proofs: proofs/Apart.antt.
-- Assumes nothing.
use Rattle.std.specs.Prelude.{◌≡◌, ℕ, ◌/◌, ◌%◌, List, ℤ, pos, neg_ℤ, nat_abs, ◌≤ℤ◌}
use Rattle.model.specs.Answer.{Answer, gives, refused}
use Rattle.model.specs.Check.{check_answer, on_lists}
use Rattle.model.specs.Read.{read_answer}
use Rattle.model.specs.Sheet.{sheet_answer}
use Rattle.file.specs.Open.{open_answer}
use Rattle.file.specs.Write.{write_answer}
use Rattle.harmonic.specs.Fill.{fill_answer}
use Rattle.import.specs.Import.{import_answer}
use Rattle.exports.specs.Exports.{word, c_number, pair_entries, c_pair_answer, c_shape_and_count}

-- a result is at least −200,000; a refusal is at most −2^32, and its size over 2^32 is the number, the remainder the place
unfoldable pub Apart : {A : Type 0} → (A → ℤ) → Answer A → Type 0
Apart result (gives x) = neg_ℤ (pos 200000) ≤ℤ c_number result (gives x)
Apart result (refused number place) =
    (c_number result (refused number place) ≤ℤ neg_ℤ (pos word))
    × (nat_abs (c_number result (refused number place)) / word ≡ number)
    × (nat_abs (c_number result (refused number place)) % word ≡ place)

-- so it is for each of the eight calls, whatever they are given
pub record ResultsAndRefusalsApart : Type 0 where
  pub check : (areas values : List ℕ) (slopes : List ℤ) (code : ℕ) →
      Apart pos (on_lists areas values slopes (λ ps. check_answer ps code))
  pub read : (areas values : List ℕ) (slopes : List ℤ) (code area : ℕ) →
      Apart (λ factor. factor) (on_lists areas values slopes (λ ps. read_answer ps code area))
  pub pair : (areas values : List ℕ) (slopes : List ℤ) (code form plan entries : ℕ) →
      Apart (λ _. pos pair_entries) (c_pair_answer areas values slopes code form plan entries)
  pub sheet : (areas values : List ℕ) (slopes : List ℤ) (code start step entries : ℕ) →
      Apart pos (on_lists areas values slopes (λ ps. sheet_answer ps code start step entries))
  pub opened : (bytes : List ℕ) (areas values slopes : ℕ) →
      Apart c_shape_and_count (open_answer bytes areas values slopes)
  pub written : (areas values : List ℕ) (slopes : List ℤ) (code buffer : ℕ) →
      Apart pos (on_lists areas values slopes (λ ps. write_answer ps code buffer))
  pub slopes_filled : (areas values : List ℕ) (slopes : ℕ) → Apart pos (fill_answer areas values slopes)
  pub imported : (bytes : List ℕ) (code areas values slopes : ℕ) → Apart pos (import_answer bytes code areas values slopes)
