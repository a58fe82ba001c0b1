-- The records of points.
--   records_length   12 bytes each; file_length, and 7 before them
--   records_next     those of one point more; two_in_file, two neighbouring ones where they stand in the file
--   begun            the head and the first i records; begun_none, begun_next, begun_all, begun_length
-- Assumes nothing.
use mathlib.Core.Path.{◌≡◌, refl, sym, ◌∙◌, ap}
use mathlib.Core.List.{List, [], ◌∷◌, ◌++◌, append-nil, append_assoc, flat_map}
use Prim.Native.Nat.{ℕ, zero, suc, ◌+◌, ◌*◌, ◌≤◌, ◌<◌}
use native.Mathlib.Numerals.{add-one}
use native.Mathlib.Omega.{arith}
use lib.ListN.{length, take, drop, length-append}
use lib.Seq.{take-suc, take-length, length-take-le, drop-append-add}
use Rattle.model.specs.Points.{Point}
use Rattle.model.specs.Inner.{origin, point_at}
use Rattle.layout.specs.Layout.{record_size, point_offset}
use Rattle.encoding.specs.File.{in_bytes, record_bytes, head_bytes, file_bytes}

pub record_length : (p : Point) → length (record_bytes p) ≡ record_size
unfolding in_bytes record_bytes
record_length p = refl

pub records_length : (ps : List Point) → length (flat_map record_bytes ps) ≡ record_size * length ps
unfolding flat_map
records_length [] = refl
records_length (p ∷ ps) =
    length-append (record_bytes p) (flat_map record_bytes ps) ∙ omega (arith, record_length p, records_length ps)

pub file_length : (ps : List Point) (code : ℕ) → length (file_bytes ps code) ≡ point_offset (length ps)
unfolding in_bytes head_bytes file_bytes
file_length ps code = omega (arith, records_length ps)

records_append : (ps qs : List Point) → flat_map record_bytes (ps ++ qs) ≡ flat_map record_bytes ps ++ flat_map record_bytes qs
unfolding flat_map
records_append [] qs = refl
records_append (p ∷ ps) qs =
    ap (record_bytes p ++◌) (records_append ps qs) ∙ sym (append_assoc (record_bytes p) (flat_map record_bytes ps) _)

pub records_next : (ps : List Point) (i : ℕ) → i < length ps →
    flat_map record_bytes (take (i + 1) ps) ≡ flat_map record_bytes (take i ps) ++ record_bytes (point_at ps i)
unfolding flat_map
records_next ps i h =
    ap (λ (n : ℕ). flat_map record_bytes (take n ps)) (add-one i)
    ∙ ap (flat_map record_bytes) (take-suc ps i origin h)
    ∙ records_append (take i ps) (point_at ps i ∷ [])
    ∙ ap (flat_map record_bytes (take i ps) ++◌) (append-nil (record_bytes (point_at ps i)))

-- a file that is begun
module _ (ps : List Point) (code : ℕ) where
  abbrev pub begun : ℕ → List ℕ
  begun i = head_bytes code (length ps) ++ flat_map record_bytes (take i ps)

  pub begun_length : (i : ℕ) → i ≤ length ps → length (begun i) ≡ point_offset i
  unfolding in_bytes head_bytes
  begun_length i h = omega (arith, records_length (take i ps), length-take-le i ps h)

  pub begun_next : (i : ℕ) → i < length ps → begun i ++ record_bytes (point_at ps i) ≡ begun (i + 1)
  begun_next i h =
      let head = head_bytes code (length ps) in
      append_assoc head (flat_map record_bytes (take i ps)) (record_bytes (point_at ps i))
      ∙ ap (head ++◌) (sym (records_next ps i h))

  pub begun_none : begun 0 ≡ head_bytes code (length ps)
  unfolding flat_map
  begun_none = append-nil (head_bytes code (length ps))

  pub begun_all : begun (length ps) ≡ file_bytes ps code
  unfolding file_bytes
  begun_all = ap (λ (qs : List Point). head_bytes code (length ps) ++ flat_map record_bytes qs) (take-length ps)

two_records : (ps : List Point) (i : ℕ) → suc i < length ps →
    take (2 * record_size) (drop (record_size * i) (flat_map record_bytes ps))
    ≡ record_bytes (point_at ps i) ++ record_bytes (point_at ps (suc i))
unfolding flat_map in_bytes record_bytes
two_records [] i h = absurd (omega arith)
two_records (p ∷ []) i h = absurd (omega arith)
two_records (p ∷ q ∷ ps) zero h = refl
two_records (p ∷ q ∷ ps) (suc i) h =
    let e : record_size * suc i ≡ length (record_bytes p) + record_size * i = omega (arith, record_length p) in
    rw (e, drop-append-add (record_bytes p) (flat_map record_bytes (q ∷ ps)) (record_size * i))
    (two_records (q ∷ ps) i (omega arith))

pub two_in_file : (ps : List Point) (code i : ℕ) → suc i < length ps →
    take (2 * record_size) (drop (point_offset i) (file_bytes ps code))
    ≡ record_bytes (point_at ps i) ++ record_bytes (point_at ps (suc i))
unfolding in_bytes head_bytes file_bytes
two_in_file ps code i h =
    rw (drop-append-add (head_bytes code (length ps)) (flat_map record_bytes ps) (record_size * i)) (two_records ps i h)
