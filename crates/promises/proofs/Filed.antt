-- The file of an accepted curve.
-- Assumes nothing.
use Prim.Native.Nat.{ℕ, suc, ◌*◌, ◌≤◌}
use mathlib.Core.Path.{◌≡◌, refl, sym, ◌∙◌}
use mathlib.Core.List.{List, ◌++◌}
use borrow.Author.Tests.{le-ltb}
use lib.ListN.{length}
use Rattle.model.specs.Answer.{gives, refused, row, ◌then◌}
use Rattle.model.specs.Points.{point_at}
use Rattle.model.specs.Read.{segment_read}
use Rattle.model.specs.Laws.{Curve}
use Rattle.model.proofs.Rows.{row_refused}
use Rattle.model.proofs.Answers.{on_lists_of_is}
use Rattle.model.proofs.Laws.{curve_accepted}
use Rattle.model.proofs.Indexed.{read_inner}
use Rattle.model.proofs.Accepted.{count_of, limits_of}
use Rattle.layout.specs.Layout.{record_size, point_offset}
use Rattle.encoding.specs.File.{in_bytes, record_bytes, head_bytes, file_bytes}
use Rattle.encoding.proofs.Records.{file_length, two_in_file}
use Rattle.encoding.proofs.RoundTrip.{head_passes, points_back, file_back}
use Rattle.file.specs.Write.{short_buffer, write_answer}
use Rattle.file.specs.Laws.{Bytes}
use Rattle.desk_answer.specs.Desk.{answer_with, segment_records}
use Rattle.promises.specs.FactorRead.{FileOf, read_of}
use Rattle.promises.specs.Filed.{file_of, write_of, Filed}

module _ (c : Curve) where
  own_file : FileOf c (file_of c)
  unfolding in_bytes head_bytes file_bytes
  own_file =
      record {
        head = head_passes c.points c.code;
        points = points_back c.points c.code (limits_of (curve_accepted c));
        code = refl;
      }

  one_file : (bytes : List ℕ) → Bytes bytes → FileOf c bytes → bytes ≡ file_of c
  one_file bytes small k = sym (file_back bytes small k.head) ∙ (rw (k.points, k.code))

  write_gives : (buffer : ℕ) → point_offset (length c.points) ≤ buffer → write_of c buffer ≡ gives (length (file_of c))
  unfolding write_answer short_buffer row ◌then◌
  write_gives buffer h =
      on_lists_of_is c.points _
      ∙ (rw (c.accepted, le-ltb buffer (point_offset (length c.points)) h, file_length c.points c.code))

  write_refuses_by_12 : (buffer number place : ℕ) → write_of c buffer ≡ refused number place → number ≡ 12
  unfolding write_answer ◌then◌
  write_refuses_by_12 buffer number place e =
      let on_points = sym (on_lists_of_is c.points _) ∙ e in
      (row_refused (short_buffer (length c.points) buffer) 12 0 _ (rw c.accepted at on_points)).0

  file_reads : (room x scratch : ℕ) → room ≤ scratch → answer_with room (file_of c) x scratch ≡ read_of c x
  unfolding answer_with in_bytes head_bytes file_bytes row ◌then◌
  file_reads room x scratch h =
      let k = own_file in
      rw (k.head, le-ltb scratch room h, k.points) (sym (on_lists_of_is c.points _))

  records_of_segment : (x : ℕ) →
      (let i = segment_read c.points x in
      segment_records (file_of c) x ≡ record_bytes (point_at c.points i) ++ record_bytes (point_at c.points (suc i)))
  unfolding segment_records
  records_of_segment x =
      let i = segment_read c.points x in
      rw own_file.points (two_in_file c.points c.code i (read_inner c.points x (count_of (curve_accepted c)).0))

pub filed : (c : Curve) → Filed c
unfolding in_bytes head_bytes file_bytes
filed c =
    record {
      own_file = own_file c;
      one_file = one_file c;
      write_gives = write_gives c;
      write_refuses_by_12 = write_refuses_by_12 c;
      desk_reads = λ x scratch h. file_reads c (record_size * length c.points) x scratch h;
      records_of_segment = records_of_segment c;
      desk_two_reads = λ x scratch h. file_reads c (2 * record_size) x scratch h;
    }
