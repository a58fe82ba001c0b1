-- The same points under 1 and under 2: both are read by the rule of 2.
-- Assumes nothing.
use Prim.Native.Nat.{ℕ}
use mathlib.Core.Path.{◌≡◌, refl, sym, ◌∙◌}
use mathlib.Core.List.{List}
use native.Mathlib.Omega.{arith}
use lib.IntN.{ℤ}
use lib.ListN.{length}
use Rattle.model.specs.Answer.{Answer, gives, refused, ◌then◌}
use Rattle.model.specs.Points.{Point}
use Rattle.model.specs.Check.{on_lists_of}
use Rattle.model.specs.Laws.{Curve, read_code, exact}
use Rattle.model.specs.Read.{factor, read_answer}
use Rattle.model.specs.Sheet.{sheet_answer, sheet_list}
use Rattle.model.proofs.Answers.{on_lists_of_is}
use Rattle.model.proofs.AsRead.{used_own, convex_first}
use Rattle.pair.specs.Pair.{pair_answer}
use Rattle.promises.specs.FactorRead.{FactorRead, sheet_of}
use Rattle.promises.specs.FiledTwice.{QuotedAlike, FiledTwice}
use Rattle.promises.proofs.Demands.{reads}

module _ (c d : Curve) (same : c.points ≡ d.points) (rising : c.code ≡ 1) (convex : d.code ≡ 2) where
  left_code : read_code c ≡ 2
  left_code = ((convex_first c).rising rising).1 (rw (same, ← convex) d.accepted)

  right_code : read_code d ≡ 2
  right_code = used_own d.points d.code (λ e. omega arith) ∙ convex

  exact_alike : (x : ℕ) → exact c x ≡ exact d x
  exact_alike x = rw (left_code, right_code, same)

  factor_alike : (x : ℕ) → factor c.points c.code x ≡ factor d.points d.code x
  unfolding factor
  factor_alike x = rw (left_code, right_code, same)

  -- a call on the points, by its rows 1 to 6 and what comes after them
  alike : {A : Type 0} (f : List Point → ℕ → Answer A) → f c.points c.code ≡ f d.points d.code →
      on_lists_of c.points (λ ps. f ps c.code) ≡ on_lists_of d.points (λ ps. f ps d.code)
  alike f e = on_lists_of_is c.points _ ∙ e ∙ sym (on_lists_of_is d.points _)

  entries_alike : (start step : ℕ) (a : Answer ℕ) (out : List ℤ) →
      sheet_list c.points c.code start step a out ≡ sheet_list d.points d.code start step a out
  unfolding sheet_list factor
  entries_alike start step (gives n) out = rw (left_code, right_code, same)
  entries_alike start step (refused number place) out = refl

  sheet_alike : (start step n : ℕ) → sheet_of c start step n ≡ sheet_of d start step n
  unfolding sheet_answer ◌then◌
  sheet_alike start step n =
      alike (λ ps code. sheet_answer ps code start step n) (rw (c.accepted, d.accepted, same))

  quoted_alike : QuotedAlike c d
  unfolding read_answer pair_answer ◌then◌
  quoted_alike =
      let f = factor_alike in
      record {
        same_exact = exact_alike;
        read_alike = λ x. alike (λ ps code. read_answer ps code x) (rw (c.accepted, d.accepted, f x, same));
        pair_alike = λ form plan.
            alike (λ ps code. pair_answer ps code form plan) (rw (c.accepted, d.accepted, f form, f plan, same));
        sheet_alike = sheet_alike;
        list_alike = λ start step out. rw (sheet_alike start step (length out)) (entries_alike start step _ out);
        same_factor = λ x g g' r r'. sym (reads r).same ∙ f x ∙ (reads r').same;
      }

pub filed_twice : FiledTwice
filed_twice = quoted_alike
