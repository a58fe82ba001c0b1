-- What Write answers, row by row, and the buffer after it.
--   buffer_left          after a refusal the buffer is as found, whatever would be written
--   refused_by_curve     these rows refuse; refused_by_buffer, row 12
--   written              no row refuses; file_in_buffer, the buffer then begins with the file
-- Assumes nothing.
use Rattle.std.proofs.Common.{◌≡◌, ℕ, ◌<◌, ◌≤◌, List, ◌++◌, sym, ◌∙◌, ap, length, drop, zero-add, lt-ltb, le-ltb}
use lib.IntN.{ℤ}
use Rattle.model.specs.Answer.{Answer, gives, refused, row, ◌then◌, filled}
use Rattle.model.specs.Points.{points}
use Rattle.model.specs.Check.{on_lists}
use Rattle.rows.proofs.Lists.{with_code, code_is, size_listed, after_rows, refused_listed}
use Rattle.layout.specs.Layout.{point_offset}
use Rattle.encoding.specs.File.{file_bytes}
use Rattle.encoding.specs.Inner.{put}
use Rattle.file.specs.Write.{short_buffer, write_answer}
use Rattle.file.specs.Laws.{write_into}
use Rattle.file.proofs.Filled.{after_refusal}

-- points that row 1 of the lists and rows 1 to 6 do not refuse, and their code
module _ (areas values : List ℕ) (slopes : List ℤ) (code : ℕ) {shape : ℕ}
    (e : gives shape ≡ on_lists areas values slopes (with_code code (λ _. code))) where
  after_6 : (room : ℕ) →
      on_lists areas values slopes (λ qs. write_answer qs code room)
      ≡ (row (short_buffer (length areas) room) 12 0 then gives (point_offset (length areas)))
  unfolding write_answer
  after_6 room =
      after_rows areas values slopes code _ e
      (λ qs. row (short_buffer (length qs) room) 12 0 then gives (point_offset (length qs)))
      ∙ (rw (size_listed areas values slopes code _ e))

  pub file_in_buffer : {out : List ℕ} (buffer : List ℕ) (n : ℕ) →
      out ≡ put 0 (file_bytes (points areas values slopes) shape) buffer →
      out ≡ filled (gives n) (file_bytes (points areas values slopes) code) buffer
  unfolding filled
  file_in_buffer buffer n k =
      let ps = points areas values slopes in
      k ∙ ap (λ (n : ℕ). file_bytes ps shape ++ drop n buffer) (zero-add (length (file_bytes ps shape)))
      ∙ ap (λ (c : ℕ). file_bytes ps c ++ drop (length (file_bytes ps c)) buffer) (sym (code_is areas values slopes code _ e))

module _ (areas values : List ℕ) (slopes : List ℤ) (code : ℕ) (buffer : List ℕ) where
  abbrev answer : Answer ℕ
  answer = write_into areas values slopes code buffer

  pub buffer_left : {a : Answer ℕ} {n i : ℕ} (bytes : List ℕ) → a ≡ refused n i → refused n i ≡ answer →
      record { answer : a ≡ answer; out : buffer ≡ filled a bytes buffer }
  buffer_left bytes e k = record { answer = e ∙ k; out = after_refusal bytes e }

  pub refused_by_curve : {n i : ℕ} → refused n i ≡ on_lists areas values slopes (with_code code (λ _. code)) →
      refused n i ≡ answer
  unfolding write_answer
  refused_by_curve = refused_listed areas values slopes code _ _

  module _ {shape : ℕ} (e : gives shape ≡ on_lists areas values slopes (with_code code (λ _. code))) where
    pub refused_by_buffer : length buffer < point_offset (length areas) → refused 12 0 ≡ answer
    unfolding short_buffer row ◌then◌
    refused_by_buffer h = rw (after_6 areas values slopes code e (length buffer), lt-ltb _ _ h)

    pub written : point_offset (length areas) ≤ length buffer → gives (point_offset (length areas)) ≡ answer
    unfolding short_buffer row ◌then◌
    written h = rw (after_6 areas values slopes code e (length buffer), le-ltb _ _ h)
