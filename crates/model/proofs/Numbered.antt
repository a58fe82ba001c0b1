-- The numbers of refusals are 1 to 14, their places at most 1,024.
--   number_most          the largest number
--   Numbered             an answer's refusal, if it is one, has such a number and such a place
--   in_row, in_then      so have a row's, and those of rows one after the other; in_each, of a row at each of some places
--   in_segments          row 6; in_curve, rows 1 to 6
--   in_check, in_reading, in_sheet    Check, Read and Sheet
--   in_lists             a call on three lists
-- Assumes nothing.
use mathlib.Core.Path.{◌≡◌, refl}
use mathlib.Core.Bool.{Bool, true, false, ◌&&◌, ◌||◌}
use mathlib.Core.List.{List, [], ◌∷◌}
use mathlib.Core.Option.{Option, none, some}
use Prim.Native.Nat.{ℕ, zero, suc, ◌+◌, ◌≤◌}
use native.Mathlib.Omega.{arith}
use borrow.Author.Tests.{ltb-false}
use lib.Dec.{T, eqb, leb, leb→le}
use lib.IntN.{ℤ}
use lib.ListN.{length}
use mir.Facts.{and_yes}
use Rattle.exact.proofs.Tests.{or_right}
use Rattle.model.specs.Answer.{Answer, gives, refused, row, ◌then◌, row_at_each}
use Rattle.model.specs.Points.{Point, points, Segment, segments, Rule}
use Rattle.model.specs.Check.{point_rows, segment_rows, curve_rows, check_answer, on_lists}
use Rattle.model.specs.Read.{read_answer}
use Rattle.model.specs.Sheet.{entries_most, bad_sheet, sheet_answer}
use Rattle.model.proofs.Rows.{count_of_row_1, row_left}
use Rattle.model.proofs.Indexed.{segments_length}

abbrev pub number_most : ℕ
number_most = 14

pub record Tabled (number place : ℕ) : Type 0 where
  pub least : 1 ≤ number
  pub most : number ≤ number_most
  pub near : place ≤ entries_most

abbrev pub Numbered : {A : Type 0} → Answer A → Type 0
Numbered (gives x) = Unit {0}
Numbered (refused number place) = Tabled number place

pub in_row : (b : Bool) (number place : ℕ) → T (leb 1 number && leb number number_most) → place ≤ entries_most →
    Numbered (row b number place)
unfolding row
in_row true number place t h =
    let both = and_yes (leb 1 number) (leb number number_most) t in
    record { least = leb→le 1 number both.0; most = leb→le number number_most both.1; near = h }
in_row false number place t h = tt

pub in_then : {A : Type 0} (first : Answer (Unit {0})) (rest : Answer A) → Numbered first → (first ≡ gives tt → Numbered rest) →
    Numbered (first then rest)
unfolding ◌then◌
in_then (gives u) rest k m = m refl
in_then (refused number place) rest k m = k

pub in_each : (condition : ℕ → Bool) (number i n : ℕ) → T (leb 1 number && leb number number_most) → i + n ≤ entries_most →
    Numbered (row_at_each condition number i n)
unfolding row_at_each
in_each condition number i zero t h = tt
in_each condition number i (suc n) t h =
    in_then _ _ (in_row _ number i t (omega arith)) (λ _. in_each condition number (suc i) n t (omega arith))

in_points : (i : ℕ) (before : Option ℕ) (ps : List Point) → i + length ps ≤ entries_most → Numbered (point_rows i before ps)
unfolding point_rows
in_points i before [] h = tt
in_points i before (p ∷ ps) h =
    let here : i ≤ entries_most = omega arith in
    in_then _ _ (in_row _ 3 i tt here) (λ _.
    in_then _ _ (in_row _ 4 i tt here) (λ _.
    in_then _ _ (in_row _ 5 i tt here) (λ _. in_points (suc i) (some p.area) ps (omega arith))))

pub in_segments : (i : ℕ) (rule : Rule) (ss : List Segment) → i + length ss ≤ entries_most → Numbered (segment_rows i rule ss)
unfolding segment_rows
in_segments i rule [] h = tt
in_segments i rule (s ∷ ss) h =
    in_then _ _ (in_row _ 6 i tt (omega arith)) (λ _. in_segments (suc i) rule ss (omega arith))

pub in_curve : (ps : List Point) (code : ℕ) → Numbered (curve_rows ps code)
unfolding curve_rows
in_curve ps code =
    in_then _ _ (in_row _ 1 0 tt (omega arith)) (λ counted.
    let few = (count_of_row_1 (length ps) (row_left _ 1 0 counted)).1 in
    in_then _ _ (in_row _ 2 0 tt (omega arith)) (λ _.
    in_then _ _ (in_points 0 none ps (omega arith)) (λ _. in_segments 0 _ (segments ps) (omega (arith, segments_length ps)))))

pub in_check : (ps : List Point) (code : ℕ) → Numbered (check_answer ps code)
unfolding check_answer
in_check ps code = in_then _ _ (in_curve ps code) (λ _. tt)

pub in_reading : (ps : List Point) (code area : ℕ) → Numbered (read_answer ps code area)
unfolding read_answer
in_reading ps code area = in_then _ _ (in_curve ps code) (λ _. in_then _ _ (in_row _ 7 0 tt (omega arith)) (λ _. tt))

few_of_row_8 : (step n : ℕ) → bad_sheet step n ≡ false → n ≤ entries_most
unfolding bad_sheet
few_of_row_8 step n e = ltb-false entries_most n (or_right (eqb step 0 || eqb n 0) _ e)

pub in_sheet : (ps : List Point) (code start step n : ℕ) → Numbered (sheet_answer ps code start step n)
unfolding sheet_answer
in_sheet ps code start step n =
    in_then _ _ (in_curve ps code) (λ _.
    in_then _ _ (in_row _ 8 0 tt (omega arith)) (λ e.
    let few = few_of_row_8 step n (row_left _ 8 0 e) in
    in_then _ _ (in_each _ 7 0 n tt (omega arith)) (λ _. tt)))

pub in_lists : {A : Type 0} (areas values : List ℕ) (slopes : List ℤ) (call : List Point → Answer A) →
    Numbered (call (points areas values slopes)) →
    Numbered (on_lists areas values slopes call)
unfolding on_lists
in_lists areas values slopes call k = in_then _ _ (in_row _ 1 0 tt (omega arith)) (λ _. k)
