-- Document 02, item 8: the code by whose rule a curve is read.
--   convex_rows      row 6 under 2 refuses nothing exactly where every segment passes the convex test
--   Used, used       a curve under 1 whose segments are convex too is read by the rule of 2, every other by that of its own code
--   used_own         so is each under a code other than 1
--   used_accepted    an accepted curve is accepted under that code too; under_2, under 2, where every segment is convex
--   convex_first     under 1 that code is 2 exactly where the same points are accepted under 2
-- Assumes nothing.
use mathlib.Core.Path.{◌≡◌, refl, sym, ◌∙◌}
use mathlib.Core.Bool.{true}
use mathlib.Core.List.{List, [], ◌∷◌}
use mathlib.Core.Logic.{inl, inr}
use Prim.Native.Nat.{ℕ, suc}
use native.Mathlib.Omega.{arith}
use borrow.Author.Tests.{ne_eqb, eqb-true}
use lib.Dec.{eqb}
use Rattle.exact.proofs.Tests.{true_or_false}
use Rattle.model.specs.Answer.{row, ◌then◌}
use Rattle.model.specs.Points.{Point, Segment, segments, convex, plain, rule_of}
use Rattle.model.specs.Shape.{has_shape, segment_test}
use Rattle.model.specs.Check.{segment_rows}
use Rattle.model.specs.Read.{all_convex, used_code}
use Rattle.model.specs.Laws.{Curve, ConvexFirst}
use Rattle.model.specs.Inner.{gives_nothing, Accepted}
use Rattle.model.proofs.Codes.{rule_of_2}
use Rattle.model.proofs.Rows.{gives_tt}
use Rattle.model.proofs.Accepted.{accepted_of, count_of, points_pass, segments_pass}

convex_rows_from : (i : ℕ) (ss : List Segment) → gives_nothing (segment_rows i (plain convex) ss) ≡ all_convex ss
unfolding segment_rows segment_test row ◌then◌ all_convex
convex_rows_from i [] = refl
convex_rows_from i (s ∷ ss) = elim (true_or_false (has_shape convex s)) [
  | inl e ↦ rw e (convex_rows_from (suc i) ss)
  | inr e ↦ rw e refl
]

pub convex_rows : (ps : List Point) → gives_nothing (segment_rows 0 (rule_of 2) (segments ps)) ≡ all_convex (segments ps)
convex_rows ps = rw (rule_of_2 {code = 2} refl) (convex_rows_from 0 (segments ps))

pub data Used (ps : List Point) (code : ℕ) : Type 0 where
  convex_too : code ≡ 1 → all_convex (segments ps) ≡ true → used_code ps code ≡ 2 → Used ps code
  own : used_code ps code ≡ code → Used ps code

pub used : (ps : List Point) (code : ℕ) → Used ps code
unfolding used_code
used ps code = elim (true_or_false (eqb code 1)) [
  | inl e ↦
      elim (true_or_false (all_convex (segments ps))) [
        | inl k ↦ convex_too (eqb-true code 1 e) k (rw (e, k) refl)
        | inr k ↦ own (rw (e, k) refl)
      ]
  | inr e ↦ own (rw e refl)
]

pub used_own : (ps : List Point) (code : ℕ) → (code ≡ 1 → ⊥) → used_code ps code ≡ code
unfolding used_code
used_own ps code n = rw (ne_eqb code 1 n) refl

module _ {ps : List Point} {code : ℕ} (k : Accepted ps code) where
  -- under 2 the segments' test alone is another
  pub under_2 : all_convex (segments ps) ≡ true → Accepted ps 2
  under_2 e = accepted_of ps 2 (count_of k) (omega arith, omega arith) (points_pass k) (gives_tt _ (convex_rows ps ∙ e))

  pub used_accepted : Accepted ps (used_code ps code)
  used_accepted = elim (used ps code) [
    | convex_too e c u ↦ rw u (under_2 c)
    | own u ↦ rw u k
  ]

-- where points are accepted under 2 every segment passes the convex test
convex_of : {ps : List Point} → Accepted ps 2 → all_convex (segments ps) ≡ true
convex_of {ps} k = sym (convex_rows ps) ∙ rw (segments_pass k) refl

pub convex_first : (c : Curve) → ConvexFirst c
unfolding used_code
convex_first c =
    let k : Accepted c.points c.code = record { none_applies = c.accepted } in
    record {
      rising = λ e. (
        λ u. (rw u at (used_accepted k)).none_applies,
        λ a. rw (e, convex_of (record { none_applies = a })) refl,
      );
      other = used_own c.points c.code;
    }
