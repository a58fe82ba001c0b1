-- Write and Open, there and back.
-- Assumes nothing.
use mathlib.Core.Path.{◌≡◌, refl, sym, ◌∙◌, ap, subst}
use mathlib.Core.List.{List, ◌++◌, map}
use Prim.Native.Nat.{ℕ, ◌≤◌}
use native.Mathlib.Omega.{arith}
use borrow.Author.Tests.{le-ltb}
use lib.IntN.{ℤ}
use lib.ListN.{length, take, drop}
use lib.Seq.{take_at}
use Rattle.model.specs.Answer.{gives, row, ◌then◌, filled}
use Rattle.model.specs.Points.{Point, points}
use Rattle.model.specs.Check.{curve_rows}
use Rattle.model.specs.Inner.{Accepted}
use Rattle.model.proofs.Rows.{gives_injective, then_first, then_rest}
use Rattle.model.proofs.Answers.{on_lists_gives, on_lists_of_is}
use Rattle.model.proofs.Lists.{fields_of, fields_length, points_of_fields}
use Rattle.model.proofs.Accepted.{limits_of}
use Rattle.model.proofs.Filling.{field_first}
use Rattle.layout.specs.Layout.{point_offset, shape_code, count, record_at, points_of}
use Rattle.layout.specs.Head.{head_rows}
use Rattle.layout.proofs.Heads.{size_of_passed}
use Rattle.layout.proofs.Points.{size_of_points}
use Rattle.encoding.specs.File.{in_bytes, head_bytes, file_bytes}
use Rattle.encoding.proofs.Records.{file_length}
use Rattle.encoding.proofs.RoundTrip.{head_passes, points_back, file_back}
use Rattle.file.specs.Open.{ShapeAndCount, short_list, open_answer}
use Rattle.file.specs.Write.{short_buffer, write_answer}
use Rattle.file.specs.Laws.{Bytes, write_into, buffer_after, open_into, areas_after, values_after, slopes_after}
use Rattle.file.specs.Laws.{OpeningGivesBack, OneFile, WrittenBack}
use Rattle.file.proofs.Filled.{after_result}

-- ---- the file of an accepted curve

-- where Write gives a length, the points are accepted and the length is the file's
record FileGiven (ps : List Point) (code n : ℕ) : Type 0 where
  pub accepted : Accepted ps code
  pub size : n ≡ point_offset (length ps)

file_given : (ps : List Point) (code room n : ℕ) → write_answer ps code room ≡ gives n → FileGiven ps code n
unfolding write_answer
file_given ps code room n e =
    let rest = row (short_buffer (length ps) room) 12 0 then gives (point_offset (length ps)) in
    let in_order : (curve_rows ps code then rest) ≡ write_answer ps code room = refl in
    let after_6 = then_rest (curve_rows ps code) rest (in_order ∙ e) in
    record {
      accepted = record { none_applies = then_first (curve_rows ps code) rest (in_order ∙ e) };
      size = sym (gives_injective (then_rest (row (short_buffer (length ps) room) 12 0) _ after_6));
    }

module _ (ps : List Point) (code : ℕ) (k : Accepted ps code) where
  opens : (areas values slopes : ℕ) → length ps ≤ areas → length ps ≤ values → length ps ≤ slopes →
      open_answer (file_bytes ps code) areas values slopes ≡ gives (record { shape = code; count = length ps })
  unfolding open_answer short_list in_bytes head_bytes file_bytes row ◌then◌
  opens areas values slopes a v s =
      rw (
        head_passes ps code,
        le-ltb areas (length ps) a,
        le-ltb values (length ps) v,
        le-ltb slopes (length ps) s,
        points_back ps code (limits_of k),
        k.none_applies,
      )

-- and the lists then hold its points
record Opens (bytes : List ℕ) (code : ℕ) (areas values : List ℕ) (slopes : List ℤ) (areas' values' : List ℕ) (slopes' : List ℤ) :
    Type 0 where
  pub answer : open_into bytes areas' values' slopes' ≡ gives (record { shape = code; count = length areas })
  pub areas_are : areas_after bytes areas' values' slopes' ≡ areas ++ drop (length areas) areas'
  pub values_are : values_after bytes areas' values' slopes' ≡ values ++ drop (length values) values'
  pub slopes_are : slopes_after bytes areas' values' slopes' ≡ slopes ++ drop (length slopes) slopes'

pub opening_gives_back : OpeningGivesBack
opening_gives_back areas values slopes code buffer n e areas' values' slopes' a v s =
    let r = on_lists_gives areas values slopes _ e in
    let ps = points areas values slopes in
    let file = file_bytes ps code in
    let w = file_given ps code (length buffer) n r.result in
    let fields = fields_of areas values slopes r.alike in
    let size = fields_length fields in
    let back = points_back ps code (limits_of w.accepted) in
    let taken : take n (buffer_after areas values slopes code buffer) ≡ file =
    ap (take n) (after_result buffer e refl) ∙ take_at file _ n (file_length ps code ∙ sym w.size) in
    let answer : open_into file areas' values' slopes' ≡ gives (record { shape = code; count = length areas }) =
    opens ps code w.accepted _ _ _ (omega (arith, size)) (omega (arith, size, r.alike)) (omega (arith, size, r.alike))
    ∙ ap (λ (k : ℕ). gives (record { shape = code; count = k })) size in
    let k : Opens file code areas values slopes areas' values' slopes' =
    record {
      answer = answer;
      areas_are = after_result areas' answer (ap (map (λ p. p.area)) back ∙ fields.areas_are);
      values_are = after_result values' answer (ap (map (λ p. p.value)) back ∙ fields.values_are);
      slopes_are = after_result slopes' answer (ap (map (λ p. p.slope)) back ∙ fields.slopes_are);
    } in
    let m = subst (λ (f : List ℕ). Opens f code areas values slopes areas' values' slopes') (sym taken) k in
    (m.answer, m.areas_are, m.values_are, m.slopes_are)

-- ---- a file that Open accepts

record FileAccepted (bytes : List ℕ) (head : ShapeAndCount) : Type 0 where
  pub headed : head_rows bytes ≡ gives tt
  pub accepted : Accepted (points_of bytes) (shape_code bytes)
  pub shape_is : shape_code bytes ≡ head.shape
  pub count_is : count bytes ≡ head.count

file_accepted : (bytes : List ℕ) (areas values slopes : ℕ) (head : ShapeAndCount) →
    open_answer bytes areas values slopes ≡ gives head →
    FileAccepted bytes head
unfolding open_answer
file_accepted bytes areas values slopes head e =
    let after_11 = then_rest (row (short_list (count bytes) areas values slopes) 11 0) _ (then_rest (head_rows bytes) _ e) in
    let same = gives_injective (then_rest (curve_rows (points_of bytes) (shape_code bytes)) _ after_11) in
    record {
      headed = then_first (head_rows bytes) _ e;
      accepted = record { none_applies = then_first (curve_rows (points_of bytes) (shape_code bytes)) _ after_11 };
      shape_is = ap (λ (h : ShapeAndCount). h.shape) same;
      count_is = ap (λ (h : ShapeAndCount). h.count) same;
    }

pub one_file : OneFile
one_file bytes small areas values slopes head e =
    let k = file_accepted bytes _ _ _ head e in
    sym (file_back bytes small k.headed) ∙ ap (file_bytes (points_of bytes)) k.shape_is

-- the curve of three lists that hold the file's points
record Writes (bytes : List ℕ) (code : ℕ) (buffer : List ℕ) (areas values : List ℕ) (slopes : List ℤ) : Type 0 where
  pub answer : write_into areas values slopes code buffer ≡ gives (length bytes)
  pub buffer_is : buffer_after areas values slopes code buffer ≡ bytes ++ drop (length bytes) buffer

writes : (bytes : List ℕ) (buffer : List ℕ) → Bytes bytes → length bytes ≤ length buffer → {head : ShapeAndCount} →
    FileAccepted bytes head →
    (let ps = points_of bytes in
    Writes bytes (shape_code bytes) buffer (map (λ p. p.area) ps) (map (λ p. p.value) ps) (map (λ p. p.slope) ps))
unfolding write_answer short_buffer row ◌then◌
writes bytes buffer small h k =
    let ps = points_of bytes in
    let size : point_offset (length ps) ≡ length bytes =
    ap point_offset (size_of_points bytes) ∙ sym (size_of_passed bytes k.headed) in
    let long = le-ltb (length buffer) (length bytes) h in
    let answer : write_into (map (λ p. p.area) ps) (map (λ p. p.value) ps) (map (λ p. p.slope) ps) (shape_code bytes) buffer
    ≡ gives (length bytes) = on_lists_of_is ps _ ∙ (rw (k.accepted.none_applies, size, long)) in
    record {
      answer = answer;
      buffer_is = after_result buffer answer
          (ap (λ (qs : List Point). file_bytes qs (shape_code bytes)) (points_of_fields ps) ∙ file_back bytes small k.headed);
    }

-- the first entries of a list after Open
opened_first : (bytes : List ℕ) (head : ShapeAndCount) (areas values slopes : ℕ) →
    open_answer bytes areas values slopes ≡ gives head →
    {A : Type 0} (field : Point → A) (found : List A) →
    map field (points_of bytes)
    ≡ take head.count (filled (open_answer bytes areas values slopes) (map field (points_of bytes)) found)
opened_first bytes head areas values slopes e field found =
    let after = filled (open_answer bytes areas values slopes) (map field (points_of bytes)) found in
    sym (field_first (record_at bytes) field (count bytes) _ (after_result found e refl))
    ∙ ap (λ (n : ℕ). take n after) (file_accepted bytes areas values slopes head e).count_is

pub written_back : WrittenBack
written_back bytes small areas values slopes head e buffer h =
    let k = file_accepted bytes _ _ _ head e in
    let area = opened_first bytes head _ _ _ e (λ p. p.area) areas in
    let value = opened_first bytes head _ _ _ e (λ p. p.value) values in
    let slope = opened_first bytes head _ _ _ e (λ p. p.slope) slopes in
    let w = rw (area, value, slope, k.shape_is) at (writes bytes buffer small h k) in
    (w.answer, w.buffer_is)
