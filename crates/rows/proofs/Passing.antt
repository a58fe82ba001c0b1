-- Rows 3 to 6 in one pass, point by point.
--   passing_starts     the first point passes (`Passing`); passing_goes_on, one more
--   accepted_of        all of them: the points are an accepted curve
--   curve_of_rows      rows 1 to 6 are passed
--   refused_by_code, refused_by_points, refused_by_segments    which row refuses
--   count_passed       row 1 is passed
--   code_passed        row 2 is passed by the code of a shape
--   accepts_of, accepted    which is what `accepts` says; limited_of, rows 1 and 3 to 5 are passed
--   accepted_result    so does a result that is the answer of rows 1 to 6
--   ok_is              what a result that some rows answer says of a part of its value
-- Assumes nothing.
use mathlib.Core.Path.{◌≡◌, refl, sym, ◌∙◌, ap}
use mathlib.Core.Bool.{true, false}
use mathlib.Core.List.{List, [], ◌∷◌}
use mathlib.Core.Option.{none}
use Prim.Native.Nat.{ℕ, ◌+◌, ◌<◌}
use lib.ListN.{length}
use Rattle.std.specs.Prelude.{Result, Ok, Err, IfOk}
use Rattle.model.specs.Answer.{Answer, gives, refused, row, ◌then◌}
use Rattle.model.specs.Points.{Point, segments, rule_of}
use Rattle.model.specs.Check.{bad_count, bad_code, point_rows, segment_rows, curve_rows}
use Rattle.model.specs.Inner.{Accepted, point_at}
use Rattle.model.proofs.Accepted as A
use Rattle.model.proofs.Rows.{gives_tt, count_of_row_1, code_of_row_2, row_passed, row_refused}
use Rattle.model.proofs.Rows.{then_first, then_rest, gives_injective, passed}
use Rattle.refusal.specs.declared.Refusal.{Refusal}
use Rattle.refusal.specs.Refusal.{answer_of}
use Rattle.shape.specs.declared.Shape.{Shape}
use Rattle.shape.specs.Codes.{code_of}
use Rattle.rows.specs.Inner.{Count, Limited, Follows, Passing, accepts}
use Rattle.rows.proofs.Faults.{then_gives, limits_passed}
use Rattle.rows.proofs.Faults.{point_turn, point_end, segment_turn, segment_end}

-- ---- rows 1 to 6 of so many points and a code from 1 to 4

pub accepts_of : (ps : List Point) (code : ℕ) → curve_rows ps code ≡ gives tt → accepts ps code ≡ true
accepts_of ps code e = rw e

pub accepted : (ps : List Point) (code : ℕ) → accepts ps code ≡ true → Accepted ps code
accepted ps code e = record { none_applies = gives_tt _ e }

pub limited_of : (ps : List Point) (code : ℕ) → accepts ps code ≡ true → Limited ps
limited_of ps code e =
    let k = accepted ps code e in
    let n = A.count_of k in
    record { count = record { least = n.0; most = n.1 }; points_pass = A.points_pass k }

pub accepted_result : (r : Result Shape Refusal) (ps : List Point) (code : ℕ) →
    answer_of code_of r ≡ (curve_rows ps code then gives code) →
    IfOk r (λ shape. accepts ps (code_of shape) ≡ true)
accepted_result (Ok shape) ps code e =
    rw (← gives_injective (then_rest (curve_rows ps code) (gives code) (sym e)))
    (accepts_of ps code (then_first (curve_rows ps code) (gives code) (sym e)))
accepted_result (Err refusal) ps code e = tt

pub ok_is : {A B C : Type 0} (f : A → B) (g : B → C) (rows : Answer (Unit {0})) (x : B) (r : Result A Refusal) →
    answer_of f r ≡ (rows then gives x) →
    IfOk r (λ a. g (f a) ≡ g x)
ok_is f g rows x (Ok a) e = ap g (sym (gives_injective (then_rest rows (gives x) (sym e))))
ok_is f g rows x (Err d) e = tt

pub count_passed : (n : ℕ) → bad_count n ≡ false → Count n
count_passed n e = let k = count_of_row_1 n e in record { least = k.0; most = k.1 }

pub code_passed : {x code : ℕ} → gives x ≡ (row (bad_code code) 2 0 then gives code) → (bad_code code ≡ false) × (x ≡ code)
code_passed {code = code} e =
    (row_passed (bad_code code) 2 0 _ (sym e), sym (gives_injective (then_rest (row (bad_code code) 2 0) _ (sym e))))

module _ (ps : List Point) (code : ℕ) where
  pub curve_of_rows : Count (length ps) → bad_code code ≡ false → point_rows 0 none ps ≡ gives tt →
      segment_rows 0 (rule_of code) (segments ps) ≡ gives tt →
      curve_rows ps code ≡ gives tt
  curve_of_rows n c p q =
      let k = code_of_row_2 code c in
      (A.accepted_of ps code (n.least, n.most) k p q).none_applies

  -- what refuses first
  module _ {A : Type 0} (rest : Answer A) (n : bad_count (length ps) ≡ false) where
    pub refused_by_code : {number : ℕ} → refused number 0 ≡ (row (bad_code code) 2 0 then gives code) →
        refused number 0 ≡ (curve_rows ps code then rest)
    unfolding curve_rows row ◌then◌
    refused_by_code e =
        let k = row_refused (bad_code code) 2 0 code (sym e) in
        rw (n, k.0, k.1)

    module _ (c : bad_code code ≡ false) where
      pub refused_by_points : {number place : ℕ} → refused number place ≡ point_rows 0 none ps →
          refused number place ≡ (curve_rows ps code then rest)
      unfolding curve_rows row ◌then◌
      refused_by_points e = rw (n, c, ← e)

      pub refused_by_segments : {number place : ℕ} → point_rows 0 none ps ≡ gives tt →
          refused number place ≡ segment_rows 0 (rule_of code) (segments ps) →
          refused number place ≡ (curve_rows ps code then rest)
      unfolding curve_rows row ◌then◌
      refused_by_segments p e = rw (n, c, p, ← e)

  pub passing_starts : 0 < length ps → point_rows 0 none (point_at ps 0 ∷ []) ≡ gives tt → Passing ps code 0
  passing_starts h e =
      record {
        inner = h;
        limits = limits_passed 0 none _ e;
        points_pass = sym (then_gives _ e) ∙ point_turn ps none 0 _ h refl;
        segments_pass = refl;
      }

  pub passing_goes_on : {i : ℕ} → i + 1 < length ps → Follows (rule_of code) (point_at ps i) (point_at ps (i + 1)) →
      Passing ps code i →
      Passing ps code (i + 1)
  unfolding row ◌then◌
  passing_goes_on {i} h f k =
      record {
        inner = h;
        limits = (passed (i + 1) _ _ [] (f.point_passes (i + 1))).limits;
        points_pass = sym (then_gives _ (f.point_passes (i + 1))) ∙ point_turn ps _ (i + 1) _ h refl ∙ k.points_pass;
        segments_pass =
            segment_turn ps (rule_of code) i _ _ h refl refl (sym f.segment_passes) ∙ k.segments_pass;
      }

  pub accepted_of : {i : ℕ} → Count (length ps) → bad_code code ≡ false → i + 1 ≡ length ps → Passing ps code i →
      accepts ps code ≡ true
  accepted_of {i} n c e k =
      accepts_of ps code
      (curve_of_rows n c (sym k.points_pass ∙ point_end ps _ (i + 1) e) (sym k.segments_pass ∙ segment_end ps _ i e))
