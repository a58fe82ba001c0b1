-- The number that C gets for an answer.
--   c_refused, c_given    for a refusal and for a result
--   in_pair, in_open, in_write, in_fill, in_import    the numbers and places of their refusals
-- Assumes nothing.
use mathlib.Core.Path.{◌≡◌, refl}
use mathlib.Core.List.{List, [], ◌∷◌, map}
use mathlib.Core.Option.{Option, none, some}
use Prim.Native.Nat.{ℕ, suc, ◌+◌, ◌*◌, ◌≤◌}
use native.Mathlib.Omega.{arith}
use lib.IntN.{ℤ, pos, neg_ℤ}
use lib.ListN.{length, length-map}
use Rattle.model.specs.Answer.{Answer, gives, refused}
use Rattle.model.specs.Points.{segments}
use Rattle.model.specs.Check.{on_lists}
use Rattle.model.specs.Sheet.{entries_most}
use Rattle.model.proofs.Rows.{count_of_row_1, row_left}
use Rattle.model.proofs.Indexed.{segments_length}
use Rattle.model.proofs.Numbered.{Numbered, in_row, in_then, in_each, in_segments, in_curve, in_lists}
use Rattle.pair.specs.Pair.{pair_answer}
use Rattle.layout.proofs.Heads.{in_head}
use Rattle.file.specs.Open.{open_answer}
use Rattle.file.specs.Write.{write_answer}
use Rattle.triples.specs.Triples.{WholePoint, point_from, triple_rows, export_rows}
use Rattle.import.specs.Import.{import_answer}
use Rattle.harmonic.specs.Fill.{area_and_value_rows, fill_answer}
use Rattle.exports.specs.Exports.{word, c_number, c_pair_answer}

module _ {A : Type 0} {a : Answer A} (result : A → ℤ) where
  pub c_refused : {number place : ℕ} → a ≡ refused number place → neg_ℤ (pos (word * number + place)) ≡ c_number result a
  unfolding c_number
  c_refused e = rw e refl

  pub c_given : {x : A} → a ≡ gives x → result x ≡ c_number result a
  unfolding c_number
  c_given e = rw e refl

pub in_pair : (areas values : List ℕ) (slopes : List ℤ) (code form plan entries : ℕ) →
    Numbered (c_pair_answer areas values slopes code form plan entries)
unfolding c_pair_answer pair_answer
in_pair areas values slopes code form plan entries =
    in_then _ _ (in_row _ 11 0 tt (omega arith)) (λ _.
    in_lists areas values slopes _ (
    in_then _ _ (in_curve _ code) (λ _.
    in_then _ _ (in_row _ 7 0 tt (omega arith)) (λ _. in_then _ _ (in_row _ 7 1 tt (omega arith)) (λ _. tt)))))

pub in_open : (bytes : List ℕ) (areas values slopes : ℕ) → Numbered (open_answer bytes areas values slopes)
unfolding open_answer
in_open bytes areas values slopes =
    in_then _ _ (in_head bytes) (λ _.
    in_then _ _ (in_row _ 11 0 tt (omega arith)) (λ _. in_then _ _ (in_curve _ _) (λ _. tt)))

pub in_write : (areas values : List ℕ) (slopes : List ℤ) (code buffer : ℕ) →
    Numbered (on_lists areas values slopes (λ ps. write_answer ps code buffer))
unfolding write_answer
in_write areas values slopes code buffer =
    in_lists areas values slopes _ (
    in_then _ _ (in_curve _ code) (λ _. in_then _ _ (in_row _ 12 0 tt (omega arith)) (λ _. tt)))

in_points : (i : ℕ) (before : Option ℕ) (areas values : List ℕ) → i + length areas ≤ entries_most →
    Numbered (area_and_value_rows i before areas values)
unfolding area_and_value_rows
in_points i before [] values h = tt
in_points i before (a ∷ areas) [] h = tt
in_points i before (a ∷ areas) (v ∷ values) h =
    let here : i ≤ entries_most = omega arith in
    in_then _ _ (in_row _ 3 i tt here) (λ _.
    in_then _ _ (in_row _ 4 i tt here) (λ _. in_points (suc i) (some a) areas values (omega arith)))

pub in_fill : (areas values : List ℕ) (slopes : ℕ) → Numbered (fill_answer areas values slopes)
unfolding fill_answer
in_fill areas values slopes =
    in_then _ _ (in_row _ 1 0 tt (omega arith)) (λ _.
    in_then _ _ (in_row _ 1 0 tt (omega arith)) (λ counted.
    let few = (count_of_row_1 (length areas) (row_left _ 1 0 counted)).1 in
    in_then _ _ (in_points 0 none areas values (omega arith)) (λ _.
    in_then _ _ (in_each _ 6 0 _ tt (omega arith)) (λ _.
    in_then _ _ (in_each _ 5 0 _ tt (omega arith)) (λ _. tt)))))

in_triples : (i : ℕ) (before : Option ℕ) (ps : List (Option WholePoint)) → i + length ps ≤ entries_most →
    Numbered (triple_rows i before ps)
unfolding triple_rows
in_triples i before [] h = tt
in_triples i before (none ∷ ps) h = record { least = omega arith; most = omega arith; near = omega arith }
in_triples i before (some p ∷ ps) h =
    let here : i ≤ entries_most = omega arith in
    in_then _ _ (in_row _ 3 i tt here) (λ _.
    in_then _ _ (in_row _ 4 i tt here) (λ _.
    in_then _ _ (in_row _ 5 i tt here) (λ _. in_triples (suc i) _ ps (omega arith))))

in_export : (ps : List (Option WholePoint)) (code : ℕ) → Numbered (export_rows ps code)
unfolding export_rows
in_export ps code =
    in_then _ _ (in_row _ 1 0 tt (omega arith)) (λ counted.
    let few = (count_of_row_1 (length ps) (row_left _ 1 0 counted)).1 in
    let size = segments_length (map point_from ps) in
    in_then _ _ (in_row _ 2 0 tt (omega arith)) (λ _.
    in_then _ _ (in_triples 0 none ps (omega arith)) (λ _.
    in_segments 0 _ (segments (map point_from ps)) (omega (arith, size, length-map ps point_from)))))

pub in_import : (bytes : List ℕ) (code areas values slopes : ℕ) → Numbered (import_answer bytes code areas values slopes)
unfolding import_answer
in_import bytes code areas values slopes =
    in_then _ _ (in_row _ 13 0 tt (omega arith)) (λ _.
    in_then _ _ (in_row _ 11 0 tt (omega arith)) (λ _. in_then _ _ (in_export _ code) (λ _. tt)))
