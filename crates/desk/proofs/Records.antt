-- The point records of a file are all its bytes after the head.
--   sizes       how many bytes they are, and how many points
--   written     what a copy of them leaves
-- Assumes nothing.
use mathlib.Core.Path.{◌≡◌}
use mathlib.Core.List.{List, ◌++◌}
use Prim.Native.Nat.{ℕ, ◌*◌, ◌-◌}
use native.Mathlib.Omega.{arith}
use lib.ListN.{length, take, drop, length-drop}
use lib.Seq.{length-take-le, take-length}
use Rattle.layout.specs.Layout.{head_size, record_size, point_offset, count}
use Rattle.layout.proofs.Points.{size_of_points}
use Rattle.desk_answer.specs.Desk.{point_records}

abbrev body : List ℕ → List ℕ
body bytes = take (length bytes - head_size) (drop head_size bytes)

module _ (bytes : List ℕ) (whole : length bytes ≡ point_offset (count bytes)) where
  size : length bytes - head_size ≡ record_size * count bytes
  size = omega arith

  pub body_size : length (body bytes) ≡ record_size * count bytes
  body_size = rw (length-take-le (length bytes - head_size) (drop head_size bytes) (omega (arith, length-drop {A = ℕ}))) size

  pub written : (found : List ℕ) → take (length (body bytes)) (body bytes) ++ drop (length (body bytes)) found
      ≡ point_records bytes ++ drop (length (point_records bytes)) found
  unfolding point_records
  written found = rw (size, take-length (point_records bytes))

pub ruleset sizes = (body_size, size_of_points)
