-- `export_pair::curve_pair` meets its contract: row 11, then what Pair promises.
-- Assumes nothing.
use mathlib.Core.Path.{◌≡◌, refl, sym, ◌∙◌, ap, subst}
use mathlib.Core.List.{List, [], ◌∷◌}
use Prim.Native.Nat.{ℕ, ◌<◌, ◌≤◌}
use native.Mathlib.Omega.{arith}
use borrow.Author.Tests.{lt-ltb, le-ltb}
use lib.IntN.{ℤ, pos}
use lib.ListN.{length, set, drop}
use mir.Syntax.{w32}
use mir.Val.{to_z, of_z}
use mir.Facts.{to_z-of_z}
use Rattle.model.specs.Answer.{refused, row, ◌then◌}
use Rattle.model.proofs.Numbered.{Numbered}
use Rattle.pair.specs.Calls.{factors_answer}
use Rattle.exports.specs.Exports.{pair_entries, c_pair_answer, c_pair_list}
use Rattle.exports.proofs.Numbers.{c_refused, c_given, in_pair}
use Rattle.model.specs.Check.{on_lists}
use Rattle.pair.specs.Pair.{pair_answer}
use Rattle.pair.specs.declared.Pair.{Pair}
use Rattle.export_pair.proofs.curve_pair.Goals as goal

-- what curve_pair answers: its list too short, or what Pair answers
module _ (areas values : List ℕ) (slopes : List ℤ) (shape form plan n : ℕ) where
  too_short : n < pair_entries → c_pair_answer areas values slopes shape form plan n ≡ refused 11 0
  unfolding c_pair_answer row ◌then◌
  too_short h = rw (lt-ltb n pair_entries h) refl

  pair_decides : (r : Pair) → pair_entries ≤ n →
      factors_answer r ≡ on_lists areas values slopes (λ ps. pair_answer ps shape form plan) →
      c_pair_answer areas values slopes shape form plan n ≡ factors_answer r
  unfolding c_pair_answer row ◌then◌
  pair_decides r h e = rw (le-ltb n pair_entries h) (sym e)

three_written : (out : List ℤ) {a b d a' b' d' : ℤ} → a ≡ a' → b ≡ b' → d ≡ d' → pair_entries ≤ length out →
    set (set (set out 0 a) 1 b) 2 d ≡ a' ∷ b' ∷ d' ∷ drop pair_entries out
three_written [] ea eb ed h = absurd (omega arith)
three_written (x ∷ []) ea eb ed h = absurd (omega arith)
three_written (x ∷ y ∷ []) ea eb ed h = absurd (omega arith)
three_written (x ∷ y ∷ z ∷ out) ea eb ed h = rw (ea, eb, ed) refl

pub returns-then-out-lt-PAIR_ENTRIES-clause-answer : goal.returns-then-out-lt-PAIR_ENTRIES-clause-answer
returns-then-out-lt-PAIR_ENTRIES-clause-answer c =
    rw (to_z-of_z (record { sfits = c.refusal.type_inv }), c.refusal.ensures)
    (c_refused (λ _. pos pair_entries) (too_short _ _ _ _ _ _ _ c.if-out-lt-PAIR_ENTRIES.true))

pub returns-then-out-lt-PAIR_ENTRIES-clause-list : goal.returns-then-out-lt-PAIR_ENTRIES-clause-list
unfolding c_pair_list
returns-then-out-lt-PAIR_ENTRIES-clause-list c =
    let s = c.args in
    rw (too_short s.areas.now s.values.now s.slopes.now s.shape s.form s.plan _ c.if-out-lt-PAIR_ENTRIES.true) refl

pub returns-in-Refused-clause-answer : goal.returns-in-Refused-clause-answer
returns-in-Refused-clause-answer c =
    let e = pair_decides _ _ _ _ _ _ _ c.read_pair.result c.if-out-lt-PAIR_ENTRIES.false c.read_pair.ensures in
    rw (to_z-of_z (record { sfits = c.refusal-in-Refused.type_inv }), c.refusal-in-Refused.ensures)
    (c_refused (λ _. pos pair_entries) (e ∙ ap factors_answer c.in-Refused.is))

pub returns-in-Refused-clause-list : goal.returns-in-Refused-clause-list
unfolding c_pair_list
returns-in-Refused-clause-list c =
    let e = pair_decides _ _ _ _ _ _ _ c.read_pair.result c.if-out-lt-PAIR_ENTRIES.false c.read_pair.ensures in
    rw (e ∙ ap factors_answer c.in-Refused.is) refl

pub returns-in-Factors-clause-answer : goal.returns-in-Factors-clause-answer
returns-in-Factors-clause-answer c =
    let e = pair_decides _ _ _ _ _ _ _ c.read_pair.result c.if-out-lt-PAIR_ENTRIES.false c.read_pair.ensures in
    c_given (λ _. pos pair_entries) (e ∙ ap factors_answer c.in-Factors.is)

pub returns-in-Factors-clause-list : goal.returns-in-Factors-clause-list
unfolding c_pair_list
returns-in-Factors-clause-list c =
    let e = pair_decides _ _ _ _ _ _ _ c.read_pair.result c.if-out-lt-PAIR_ENTRIES.false c.read_pair.ensures in
    let f = c.in-Factors in
    let form : to_z w32 (of_z w32 f.at_form) ≡ f.at_form = to_z-of_z {w = w32} (record { sfits = omega arith }) in
    let plan : to_z w32 (of_z w32 f.at_plan) ≡ f.at_plan = to_z-of_z {w = w32} (record { sfits = omega arith }) in
    let rest : to_z w32 (of_z w32 f.difference) ≡ f.difference = to_z-of_z {w = w32} (record { sfits = omega arith }) in
    rw (e ∙ ap factors_answer c.in-Factors.is)
    (three_written c.args.out.now form plan rest c.if-out-lt-PAIR_ENTRIES.false)
