-- The file of a curve and the points of a file, there and back.
--   head_passes     the file of a curve has its head and its length
--   points_back     its points are those of the curve, if they keep their limits
--   file_back       the file of the points and the code that a file has is that file
-- Assumes nothing.
use mathlib.Core.Path.{◌≡◌, refl, sym, ◌∙◌, ap}
use mathlib.Core.List.{List, [], ◌∷◌, ◌++◌, flat_map}
use Prim.Native.Nat.{ℕ, zero, suc, ◌+◌, ◌*◌, ◌≤◌, ◌<◌}
use native.Mathlib.Nat.{add-zero}
use native.Mathlib.Omega.{arith}
use borrow.Author.Tests.{le-ltb, eq-eqb}
use lib.IntN.{nat_abs}
use lib.ListN.{length, take, drop, length-drop, take-append-drop}
use lib.Seq.{take_all, take_at, take-add, drop-drop, drop-append-add, ext_get_or}
use Rattle.exact.proofs.Magnitude.{size_between}
use Rattle.model.specs.Answer.{gives, row, ◌then◌}
use Rattle.model.specs.Points.{Point}
use Rattle.model.specs.Sheet.{tabulate}
use Rattle.model.specs.Inner.{origin, point_at, Limits}
use Rattle.model.proofs.Rows.{row_passed}
use Rattle.layout.specs.Layout.{head_size, record_size, point_offset, byte, little_endian}
use Rattle.layout.specs.Layout.{shape_code, count, record_at, points_of}
use Rattle.layout.specs.Head.{wrong_mark, bad_head, bad_size, head_rows}
use Rattle.layout.proofs.Heads.{marked, size_of_passed}
use Rattle.layout.proofs.Numbers.{two_bytes}
use Rattle.layout.proofs.Points.{size_of_points, point_is}
use Rattle.encoding.specs.File.{in_bytes, in_twos_complement, record_bytes, head_bytes, file_bytes}
use Rattle.encoding.proofs.Records.{record_length, file_length}
use Rattle.encoding.proofs.Windows.{le_window, in_bytes_le, le_small, bytes_are, twos, twos_small, twos_back}

-- ---- from the points to the file and back

-- a record's numbers
module _ (p : Point) (l : Limits p) where
  area_in : little_endian (record_bytes p) 0 4 ≡ p.area
  unfolding little_endian in_bytes record_bytes
  area_in = omega (arith, l.area)

  value_in : little_endian (record_bytes p) 4 4 ≡ p.value
  unfolding little_endian in_bytes record_bytes
  value_in = omega (arith, l.value)

  slope_size : nat_abs p.slope < 2147483648
  slope_size = omega (arith, size_between p.slope l.slope_low l.slope_high)

  slope_in : little_endian (record_bytes p) 8 4 ≡ in_twos_complement p.slope
  unfolding little_endian in_bytes record_bytes
  slope_in = omega (arith, twos_small p.slope slope_size)

-- the records of points, and the place of one of them
record_window : (ps : List Point) (i : ℕ) → i < length ps →
    take record_size (drop (record_size * i) (flat_map record_bytes ps)) ≡ record_bytes (point_at ps i)
unfolding flat_map
record_window [] i h = absurd (omega arith)
record_window (p ∷ ps) zero h = take_at (record_bytes p) (flat_map record_bytes ps) record_size (record_length p)
record_window (p ∷ ps) (suc i) h =
    let next : record_size * suc i ≡ length (record_bytes p) + record_size * i = omega (arith, record_length p) in
    let rest = drop-append-add (record_bytes p) (flat_map record_bytes ps) (record_size * i) in
    ap (λ (n : ℕ). take record_size (drop n (record_bytes p ++ flat_map record_bytes ps))) next
    ∙ ap (take record_size) rest
    ∙ record_window ps i (omega arith)

module _ (ps : List Point) (code : ℕ) where
  abbrev file : List ℕ
  file = file_bytes ps code

  pub head_passes : head_rows file ≡ gives tt
  unfolding head_rows bad_head wrong_mark bad_size little_endian in_bytes head_bytes file_bytes row ◌then◌
  head_passes =
      let size = file_length ps code in
      rw (le-ltb (length file) head_size (omega (arith, size)), eq-eqb (length file) (point_offset (length ps)) size)

  file_window : (i : ℕ) → i < length ps → take record_size (drop (point_offset i) file) ≡ record_bytes (point_at ps i)
  unfolding in_bytes head_bytes file_bytes
  file_window i h =
      ap (take record_size) (drop-append-add (head_bytes code (length ps)) (flat_map record_bytes ps) (record_size * i))
      ∙ record_window ps i h

  number_window : (i : ℕ) → i < length ps → (k : ℕ) → k + 4 ≤ record_size →
      little_endian file (point_offset i + k) 4 ≡ little_endian (record_bytes (point_at ps i)) k 4
  number_window i h k m =
      sym (le_window file (point_offset i) record_size k 4 m) ∙ ap (λ (l : List ℕ). little_endian l k 4) (file_window i h)

  record_back : (i : ℕ) → i < length ps → Limits (point_at ps i) → record_at file i ≡ point_at ps i
  unfolding record_at
  record_back i h l =
      let p = point_at ps i in
      let at = point_offset i in
      let area = ap (λ (k : ℕ). little_endian file k 4) (sym (add-zero at)) ∙ number_window i h 0 (omega arith) ∙ area_in p l in
      let value = number_window i h 4 (omega arith) ∙ value_in p l in
      let slope = number_window i h 8 (omega arith) ∙ slope_in p l in
      rw (area, value, slope, twos p.slope (slope_size p l))

  pub points_back : ((i : ℕ) → i < length ps → Limits (point_at ps i)) → points_of file ≡ ps
  unfolding in_bytes head_bytes file_bytes
  points_back l =
      ext_get_or origin (points_of file) ps (size_of_points file)
      (λ i h. let j : i < length ps = omega (arith, h, size_of_points file) in
      point_is file i j ∙ record_back i j (l i j))

-- ---- from a file to its points and back

module _ (bytes : List ℕ) (small : (at : ℕ) → byte bytes at < 256) where
  window_back : (i : ℕ) → point_offset (suc i) ≤ length bytes →
      record_bytes (record_at bytes i) ≡ take record_size (drop (point_offset i) bytes)
  unfolding record_bytes record_at
  window_back i h =
      let at = point_offset i in
      let w = drop at bytes in
      let second = drop-drop 4 at bytes in
      let third = drop-drop 8 at bytes in
      rw (
        in_bytes_le bytes small 4 at (omega arith),
        in_bytes_le bytes small 4 (at + 4) (omega arith),
        twos_back _ (le_small bytes small (at + 8)),
        in_bytes_le bytes small 4 (at + 8) (omega arith),
        ← second,
        ← third,
      ) (sym (take-add 8 4 w ∙ ap (◌++ take 4 (drop 8 w)) (take-add 4 4 w)))

  windows_back : (j n : ℕ) → point_offset (j + n) ≤ length bytes →
      flat_map record_bytes (tabulate (record_at bytes) j n) ≡ take (record_size * n) (drop (point_offset j) bytes)
  unfolding flat_map tabulate
  windows_back j zero h = refl
  windows_back j (suc n) h =
      let w = drop (point_offset j) bytes in
      let all : record_size * suc n ≡ record_size + record_size * n = omega arith in
      let next : point_offset j + record_size ≡ point_offset (suc j) = omega arith in
      rw (
        window_back j (omega arith),
        windows_back (suc j) n (omega arith),
        all,
        take-add record_size (record_size * n) w,
        drop-drop record_size (point_offset j) bytes,
        next,
      )

  head_back : head_rows bytes ≡ gives tt → head_bytes (shape_code bytes) (length (points_of bytes)) ≡ take head_size bytes
  unfolding head_rows in_bytes head_bytes tabulate
  head_back e =
      let m = marked bytes (row_passed (bad_head bytes) 9 0 _ e) in
      let low : byte bytes 3 ≡ 1 = omega (arith, m.first_version, two_bytes bytes 3) in
      let high : byte bytes 4 ≡ 0 = omega (arith, m.first_version, two_bytes bytes 3) in
      let bytes_0_to_6 = bytes_are bytes small 0 head_size (omega (arith, size_of_passed bytes e)) in
      rw (size_of_points bytes) (rw (m.t, m.r, m.f, low, high) at bytes_0_to_6)

  pub file_back : head_rows bytes ≡ gives tt → file_bytes (points_of bytes) (shape_code bytes) ≡ bytes
  unfolding file_bytes
  file_back e =
      let size = size_of_passed bytes e in
      let rest = length-drop head_size bytes in
      rw (
        head_back e,
        windows_back 0 (count bytes) (omega (arith, size)),
        take_all (record_size * count bytes) (drop head_size bytes) (omega (arith, size, rest)),
      ) (take-append-drop head_size bytes)
