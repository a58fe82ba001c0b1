-- The third demand: a factor read, whichever call gives it, is the reading at an area of the curve (`reads`); the laws of the
-- reading do the rest (`third_demand`). Lists that Check accepts are a curve (`check_accepts`).
-- Assumes nothing.
use Prim.Native.Nat.{ℕ, ◌*◌, ◌<◌}
use mathlib.Core.Path.{◌≡◌, refl, sym, ◌∙◌, ap, subst}
use mathlib.Core.List.{List}
use native.Mathlib.Nat.{zero-add}
use native.Mathlib.Omega.{arith}
use lib.Dec.{ltb}
use lib.IntN.{ℤ, pos, neg_ℤ}
use lib.ListN.{length, get_or}
use lib.Signed.{◌≤ℤ◌}
use Rattle.exact.specs.Fraction.{Proper, whole, ◌+ℚ◌, ◌-ℚ◌, ◌≤ℚ◌}
use Rattle.exact.specs.Rounding.{half}
use Rattle.exact.proofs.Order as Z
use Rattle.model.specs.Answer.{Answer, gives, refused, row, ◌then◌}
use Rattle.model.specs.Points.{Point, points}
use Rattle.model.specs.Check.{curve_rows, check_answer, on_lists_of}
use Rattle.model.specs.Laws.{Curve, Area, exact}
use Rattle.model.specs.Read.{outside, read_answer}
use Rattle.model.specs.Sheet.{bad_sheet, entry_area, entry_rows, sheet_answer, sheet_list}
use Rattle.model.proofs.Rows.{gives_injective, then_first, then_rest, row_passed, row_refused}
use Rattle.model.proofs.Answers.{on_lists_of_is, on_lists_gives, given, reading_given}
use Rattle.model.proofs.Lists.{fields_of}
use Rattle.model.proofs.Laws.{curve_accepted, factor, values_are_proper, factors_are_near, segments_meet, rated_points_read}
use Rattle.model.proofs.Laws.{factors_are_ranged, rising_factors, convex_chords, convex_steps}
use Rattle.model.proofs.Laws.{falling_factors, concave_chords, concave_steps}
use Rattle.model.proofs.AsRead.{convex_first}
use Rattle.model.proofs.MirrorCurve.{mirror_accepted}
use Rattle.model.proofs.Filling.{tabulate_at}
use Rattle.model.proofs.Places.{each_fails, each_passes}
use Rattle.layout.specs.Layout.{record_size, shape_code, count, points_of}
use Rattle.layout.specs.Head.{head_rows}
use Rattle.desk_answer.specs.Desk.{answer_with, desk_number}
use Rattle.desk_answer.specs.Laws.{Apart}
use Rattle.desk_answer.proofs.Apart.{apart}
use Rattle.pair.specs.Pair.{Factors, factors, pair_answer}
use Rattle.promises.specs.FactorRead.{FileOf, FactorRead, by_read, by_pair_form, by_pair_plan, by_sheet}
use Rattle.promises.specs.FactorRead.{by_desk, by_desk_two}
use Rattle.promises.specs.Demands.{CheckAccepts, ThirdDemand}

-- f is the reading at the area x of the curve
pub record Reads (c : Curve) (x : ℕ) (f : ℤ) : Type 0 where
  pub area : Area c x
  pub same : factor c x ≡ f

-- a call on the lists is the call on the curve's points
on_curve : (c : Curve) {A : Type 0} (f : List Point → Answer A) → on_lists_of c.points f ≡ f c.points
on_curve c f = on_lists_of_is c.points f

pub check_accepts : CheckAccepts
unfolding check_answer
check_accepts areas values slopes code n e =
    let r = on_lists_gives areas values slopes (λ ps. check_answer ps code) e in
    let fields = fields_of areas values slopes r.alike in
    let c : Curve = record { points = points areas values slopes; code = code; accepted = then_first _ _ r.result } in
    (c, refl, fields.areas_are, fields.values_are, fields.slopes_are)

-- ---- Read and Pair

reads_of_read : (c : Curve) (x : ℕ) (f : ℤ) → read_answer c.points c.code x ≡ gives f → Reads c x f
reads_of_read c x f e =
    let k = given c.points c.code x e in
    record { area = record { within = k.within }; same = k.factor }

record Both (c : Curve) (form plan : ℕ) (r : Factors) : Type 0 where
  pub at_form : Reads c form r.form
  pub at_plan : Reads c plan r.plan

reads_of_pair : (c : Curve) (form plan : ℕ) (r : Factors) → pair_answer c.points c.code form plan ≡ gives r →
    Both c form plan r
unfolding pair_answer factors
reads_of_pair c form plan r e =
    let after_6 = then_rest (curve_rows c.points c.code) _ e in
    let after_form = then_rest (row (outside c.points form) 7 0) _ after_6 in
    let same = gives_injective (then_rest (row (outside c.points plan) 7 1) _ after_form) in
    record {
      at_form = record {
        area = record { within = row_passed (outside c.points form) 7 0 _ after_6 };
        same = ap (λ (y : Factors). y.form) same;
      };
      at_plan = record {
        area = record { within = row_passed (outside c.points plan) 7 1 _ after_form };
        same = ap (λ (y : Factors). y.plan) same;
      };
    }

-- ---- Sheet

reads_of_entry : (c : Curve) (start step : ℕ) (out : List ℤ) (entries index : ℕ) →
    sheet_answer c.points c.code start step (length out) ≡ gives entries → index < entries →
    Reads c (entry_area start step index) (get_or (sheet_list c.points c.code start step (gives entries) out) index (pos 0))
unfolding sheet_answer sheet_list
reads_of_entry c start step out entries index e h =
    let n = length out in
    let rows = entry_rows c.points start step n in
    let after_8 = then_rest (row (bad_sheet step n) 8 0) _ (then_rest (curve_rows c.points c.code) _ e) in
    let count = gives_injective (then_rest rows (gives n) after_8) in
    let f : ℕ → ℤ = λ j. factor c (entry_area start step j) in
    record {
      area = record {
        within = each_fails _ 7 n index (then_first rows (gives n) after_8) (omega (arith, count));
      };
      same = sym (tabulate_at f (pos 0) 0 index entries h ∙ ap f (zero-add index));
    }

-- ---- the desk readings, whatever room they ask for

-- rows 1 to 7 of the file are those of the curve
file_reads : (c : Curve) (bytes : List ℕ) (x : ℕ) → FileOf c bytes →
    read_answer (points_of bytes) (shape_code bytes) x ≡ read_answer c.points c.code x
file_reads c bytes x k = rw (k.points, k.code)

-- a number that is not below −1,000,000 is a factor
factor_of_number : (a : Answer ℤ) (f : ℤ) → Apart a → desk_number a ≡ f → neg_ℤ (pos 1000000) ≤ℤ f → a ≡ gives f
unfolding desk_number Apart
factor_of_number (gives g) f k e h = ap gives e
factor_of_number (refused n i) f k e h = absurd (Z.≤_trans h (subst (λ (z : ℤ). z ≤ℤ neg_ℤ (pos 1000001)) e k)).le

reads_of_desk : (c : Curve) (room : ℕ) (bytes : List ℕ) (x scratch : ℕ) (f : ℤ) → FileOf c bytes →
    desk_number (answer_with room bytes x scratch) ≡ f → neg_ℤ (pos 1000000) ≤ℤ f → Reads c x f
unfolding answer_with
reads_of_desk c room bytes x scratch f k e h =
    let is = factor_of_number _ f (apart room bytes x scratch) e h in
    reads_of_read c x f
    (sym (file_reads c bytes x k) ∙ then_rest (row (ltb scratch room) 11 0) _ (then_rest (head_rows bytes) _ is))

pub reads : {c : Curve} {x : ℕ} {f : ℤ} → FactorRead c x f → Reads c x f
reads {c} (by_read x f e) = reads_of_read c x f (sym (on_curve c _) ∙ e)
reads {c} (by_pair_form form plan r e) = (reads_of_pair c form plan r (sym (on_curve c _) ∙ e)).at_form
reads {c} (by_pair_plan form plan r e) = (reads_of_pair c form plan r (sym (on_curve c _) ∙ e)).at_plan
reads {c} (by_sheet start step out n index e h) = rw e (reads_of_entry c start step out n index (sym (on_curve c _) ∙ e) h)
reads {c} (by_desk bytes x scratch f k e h) = reads_of_desk c (record_size * count bytes) bytes x scratch f k e h
reads {c} (by_desk_two bytes x scratch f k e h) = reads_of_desk c (2 * record_size) bytes x scratch f k e h

-- ---- each area can be read

module _ (c : Curve) where
  read_gives : (x : ℕ) → Area c x → read_answer c.points c.code x ≡ gives (factor c x)
  read_gives x k = reading_given c.points c.code x (curve_accepted c) k.within

  pair_gives : (form plan : ℕ) → Area c form → Area c plan →
      pair_answer c.points c.code form plan ≡ gives (factors (factor c form) (factor c plan))
  unfolding pair_answer row ◌then◌
  pair_gives form plan k m = rw (c.accepted, k.within, m.within)

  sheet_refuses_by_8 : (start step n : ℕ) → ((index : ℕ) → index < n → Area c (entry_area start step index)) →
      (number place : ℕ) → sheet_answer c.points c.code start step n ≡ refused number place → number ≡ 8
  unfolding sheet_answer row ◌then◌
  sheet_refuses_by_8 start step n inside number place e =
      let pass = each_passes _ 7 n (λ i h. (inside i h).within) in
      (row_refused (bad_sheet step n) 8 0 n (rw (c.accepted, pass) at e)).0

  desk_refuses_by_11 : (room : ℕ) (bytes : List ℕ) (x scratch : ℕ) → FileOf c bytes → Area c x →
      (number place : ℕ) → answer_with room bytes x scratch ≡ refused number place → number ≡ 11
  unfolding answer_with row ◌then◌
  desk_refuses_by_11 room bytes x scratch k m number place e =
      (row_refused (ltb scratch room) 11 0 (factor c x) (rw (k.head, file_reads c bytes x k, read_gives x m) at e)).0

  -- ---- the factors

  half_a_unit : (x : ℕ) (f : ℤ) → FactorRead c x f →
      Proper (exact c x) × (exact c x -ℚ half ≤ℚ whole f) × (whole f ≤ℚ exact c x +ℚ half)
  half_a_unit x f r =
      let k = reads r in
      let near = rw k.same at (factors_are_near c x k.area) in
      (values_are_proper c x k.area, near.low, near.high)

pub third_demand : (c : Curve) → ThirdDemand c
third_demand c =
    record {
      segments_meet = segments_meet c;
      read_refuses_none = λ x k. (factor c x, on_curve c _ ∙ read_gives c x k);
      pair_refuses_none = λ form plan k m. (factors (factor c form) (factor c plan), on_curve c _ ∙ pair_gives c form plan k m);
      sheet_refuses_by_8 = λ start step n inside number place e.
          sheet_refuses_by_8 c start step n inside number place (sym (on_curve c _) ∙ e);
      desk_refuses_by_11 = λ bytes. desk_refuses_by_11 c (record_size * count bytes) bytes;
      desk_two_refuses_by_11 = desk_refuses_by_11 c (2 * record_size);
      half_a_unit = half_a_unit c;
      even_at_half = λ x f r. (rw (reads r).same at (factors_are_near c x (reads r).area)).even_at_half;
      same_factor = λ x f g r s. sym (reads r).same ∙ (reads s).same;
      rising = λ e x y f g r s h.
          rw (← (reads r).same, ← (reads s).same) (rising_factors c e x y (reads r).area (reads s).area h);
      convex_steps = λ e x k f₀ f₁ f₂ h r₀ r₁ r₂.
          rw (← (reads r₀).same, ← (reads r₁).same, ← (reads r₂).same)
          (convex_steps c e x k (reads r₀).area (reads r₁).area (reads r₂).area);
      convex_chords = convex_chords c;
      convex_first = convex_first c;
      falling = λ e x y f g r s h.
          rw (← (reads r).same, ← (reads s).same) (falling_factors c e x y (reads r).area (reads s).area h);
      concave_steps = λ e x k f₀ f₁ f₂ h r₀ r₁ r₂.
          rw (← (reads r₀).same, ← (reads r₁).same, ← (reads r₂).same)
          (concave_steps c e x k (reads r₀).area (reads r₁).area (reads r₂).area);
      concave_chords = concave_chords c;
      mirror_accepted = mirror_accepted c;
      ranged = λ x f r. let k = rw (reads r).same at (factors_are_ranged c x (reads r).area) in (k.low, k.high);
      rated_factors = λ before after p f e r. sym (reads r).same ∙ rated_points_read c before after p e;
    }
