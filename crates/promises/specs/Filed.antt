-- Document 02, items 1 and 5, of an accepted curve: its file, what Write answers, and what the desk reads of it. Proofs:
-- proofs/Filed.antt.
-- Assumes nothing.
use Rattle.std.specs.Prelude.{ℕ, suc, ◌*◌, ◌≤◌, ◌≡◌, List, ◌++◌, length}
use Rattle.model.specs.Answer.{Answer, gives, refused}
use Rattle.model.specs.Check.{on_lists_of}
use Rattle.model.specs.Points.{point_at}
use Rattle.model.specs.Read.{segment_read}
use Rattle.model.specs.Laws.{Curve}
use Rattle.layout.specs.Layout.{record_size, point_offset}
use Rattle.encoding.specs.File.{record_bytes, file_bytes}
use Rattle.file.specs.Write.{write_answer}
use Rattle.file.specs.Laws.{Bytes}
use Rattle.desk_answer.specs.Desk.{desk_answer, desk_answer_two, segment_records}
use Rattle.promises.specs.FactorRead.{FileOf, read_of}

abbrev pub file_of : Curve → List ℕ
file_of c = file_bytes c.points c.code

-- Write on the curve's lists and code, with a buffer of so many bytes
abbrev pub write_of : Curve → ℕ → Answer ℕ
write_of c buffer = on_lists_of c.points (λ ps. write_answer ps c.code buffer)

pub record Filed (c : Curve) : Type 0 where
  -- the file has the curve's points and code, so what is said of the factors read of a curve is said of the desk's on this file
  pub own_file : FileOf c (file_of c)
  -- no other bytes have them
  pub one_file : (bytes : List ℕ) → Bytes bytes → FileOf c bytes → bytes ≡ file_of c
  -- Write gives the file's length, or refuses by 12
  pub write_gives : (buffer : ℕ) → point_offset (length c.points) ≤ buffer → write_of c buffer ≡ gives (length (file_of c))
  pub write_refuses_by_12 : (buffer number place : ℕ) → write_of c buffer ≡ refused number place → number ≡ 12
  -- beyond document 02: the desk readings of the file, with a scratch long enough, are Read's answer at every area
  pub desk_reads : (x scratch : ℕ) → record_size * length c.points ≤ scratch → desk_answer (file_of c) x scratch ≡ read_of c x
  pub desk_two_reads : (x scratch : ℕ) → 2 * record_size ≤ scratch → desk_answer_two (file_of c) x scratch ≡ read_of c x
  -- and the two records that the second one leaves are those of the points of the segment read
  pub records_of_segment : (x : ℕ) →
      (let i = segment_read c.points x in
      segment_records (file_of c) x ≡ record_bytes (point_at c.points i) ++ record_bytes (point_at c.points (suc i)))
