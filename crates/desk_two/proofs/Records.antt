-- The two records of the segment read.
--   records_fit   they are in the file
--   written       what a copy from where they begin leaves
-- Assumes nothing.
use mathlib.Core.Bool.{true}
use mathlib.Core.Path.{◌≡◌}
use mathlib.Core.List.{List, ◌++◌}
use Prim.Native.Nat.{ℕ, ◌+◌, ◌*◌, ◌≤◌}
use native.Mathlib.Omega.{arith}
use lib.ListN.{length, drop, length-drop}
use lib.Seq.{length-take-le}
use Rattle.model.specs.Read.{segment_read}
use Rattle.rows.specs.Inner.{accepts}
use Rattle.layout.specs.Layout.{record_size, point_offset, count, points_of}
use Rattle.layout.proofs.Points.{size_of_points}
use Rattle.lookup.proofs.Areas.{read_before_last}
use Rattle.desk_answer.specs.Desk.{segment_records}
use Rattle.desk_answer.specs.Inner.{copied}

module _ (bytes : List ℕ) (area code : ℕ) (size : length bytes ≡ point_offset (count bytes))
    (e : accepts (points_of bytes) code ≡ true) where
  pub records_fit : point_offset (segment_read (points_of bytes) area) + 2 * record_size ≤ length bytes
  records_fit = omega (arith, size_of_points bytes, read_before_last (points_of bytes) code e area)

  records_size : length (segment_records bytes area) ≡ 2 * record_size
  unfolding segment_records
  records_size =
      let all = drop (point_offset (segment_read (points_of bytes) area)) bytes in
      length-take-le (2 * record_size) all (omega (arith, records_fit, length-drop {A = ℕ}))

  pub written : (at : ℕ) (found : List ℕ) → at ≡ point_offset (segment_read (points_of bytes) area) →
      copied at 0 24 bytes found ≡ segment_records bytes area ++ drop (length (segment_records bytes area)) found
  unfolding segment_records
  written at found e = rw (records_size, e)
