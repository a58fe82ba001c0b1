-- `pair::read_pair` meets its contract, by what Read promises at the two areas.
-- Assumes nothing.
use mathlib.Core.Path.{◌≡◌, sym, ◌∙◌, ap, subst}
use mathlib.Core.Bool.{false}
use mathlib.Core.List.{List}
use Prim.Native.Nat.{ℕ, ◌≤◌}
use native.Mathlib.Omega.{arith}
use lib.IntN.{ℤ, pos, neg_ℤ, nat_abs, ◌-ℤ◌}
use lib.ListN.{length}
use lib.Signed.{◌≤ℤ◌}
use mir.Syntax.{w32}
use mir.Val.{SFits, to_z, of_z}
use mir.Facts.{to_z-of_z}
use Rattle.exact.proofs.Order as Z
use Rattle.exact.proofs.Magnitude.{size_between, size--, sfits_of_size}
use Rattle.model.specs.Answer.{Answer, gives, refused, row, ◌then◌}
use Rattle.model.specs.Points.{Point, points}
use Rattle.model.specs.Check.{lengths_differ, curve_rows, on_lists}
use Rattle.model.specs.Read.{outside, read_answer}
use Rattle.model.proofs.Answers.{Given, given, on_lists_is, on_lists_gives, on_lists_refused, refused_outside, refused_before}
use Rattle.curve.specs.Calls.{reading_answer, InRange}
use Rattle.pair.specs.Pair.{pair_answer, factors}
use Rattle.pair.specs.Calls.{factors_answer}
use Rattle.curve.specs.declared.Reading.{Reading}
use Rattle.curve.specs.declared.Reading.TheVariants.{Factor}
use Rattle.pair.proofs.read_pair.Goals as goal

-- what Read gave at an area
record Read (areas values : List ℕ) (slopes : List ℤ) (code x : ℕ) (f : ℤ) : Type 0 where
  pub given : Given (points areas values slopes) code x f
  pub same_lengths : lengths_differ (length areas) (length values) (length slopes) ≡ false
  pub small : nat_abs f ≤ 400000

read_of_answer : (areas values : List ℕ) (slopes : List ℤ) (code x : ℕ) {a : Answer ℤ} {f : ℤ} →
    a ≡ on_lists areas values slopes (λ ps. read_answer ps code x) →
    InRange a →
    a ≡ gives f →
    Read areas values slopes code x f
read_of_answer areas values slopes code x {f = f} e r g =
    let k = on_lists_gives areas values slopes (λ ps. read_answer ps code x) (sym e ∙ g) in
    let (low, high) = subst InRange g r in
    let lowest : neg_ℤ (pos 400000) ≤ℤ f = Z.≤_trans (record { le = tt }) low in
    record { given = given _ code x k.result; same_lengths = k.same_lengths; small = size_between f lowest high }

module _ {areas values : List ℕ} {slopes : List ℤ} {code x : ℕ} {f : ℤ} (k : Read areas values slopes code x f) where
  on_lists_read : {A : Type 0} (call : List Point → Answer A) →
      on_lists areas values slopes call ≡ call (points areas values slopes)
  on_lists_read call = on_lists_is areas values slopes call k.same_lengths

  factor_bits : to_z w32 (of_z w32 f) ≡ f
  factor_bits = to_z-of_z (sfits_of_size w32 f (let h = k.small in omega arith))

  -- the difference of two factors fits 32 bits
  difference_fits : {y : ℕ} {p : ℤ} → Read areas values slopes code y p → SFits w32 (p -ℤ f)
  difference_fits {p = p} m = sfits_of_size w32 (p -ℤ f) (omega (arith, size-- p f, k.small, m.small))

-- what a call of Read that gave a factor says
read_factor : (areas values : List ℕ) (slopes : List ℤ) (code x : ℕ) {r : Reading} {f : ℤ} →
    reading_answer r ≡ on_lists areas values slopes (λ ps. read_answer ps code x) →
    InRange (reading_answer r) →
    r ≡ Factor f →
    Read areas values slopes code x f
read_factor areas values slopes code x e range is =
    read_of_answer areas values slopes code x e range (ap reading_answer is)

-- rows that refuse the form area refuse the pair
form_refused : (ps : List Point) (code form plan : ℕ) {n i : ℕ} → read_answer ps code form ≡ refused n i →
    pair_answer ps code form plan ≡ refused n i
unfolding read_answer pair_answer
form_refused ps code form plan e = refused_before (curve_rows ps code) (outside ps form) 7 _ _ e

pub returns-in-Refused : goal.returns-in-Refused
returns-in-Refused c =
    let s = c.args in
    let e = rw c.in-Refused.is at c.read-at_form.ensures.answer in
    sym (on_lists_refused s.areas.now s.values.now s.slopes.now _ _ (form_refused _ _ _ _) (sym e))

pub returns-in-Refused-at_plan : goal.returns-in-Refused-at_plan
unfolding pair_answer row ◌then◌
returns-in-Refused-at_plan c =
    let s = c.args in
    let k = read_factor _ _ _ _ _ c.read-at_form.ensures.answer c.read-at_form.ensures.range c.in-Factor.is in
    let e = rw c.in-Refused-at_plan.is at c.read-at_plan.ensures.answer in
    let read = on_lists_read k (λ ps. read_answer ps s.shape s.plan) in
    let out = refused_outside _ _ _ k.given.accepted (sym (e ∙ read)) in
    rw (
      on_lists_read k (λ ps. pair_answer ps s.shape s.form s.plan),
      k.given.accepted.none_applies,
      k.given.within,
      out.1,
      out.0,
    )

pub returns-in-Factor-at_plan : goal.returns-in-Factor-at_plan
unfolding pair_answer factors row ◌then◌
returns-in-Factor-at_plan c =
    let s = c.args in
    let k = read_factor _ _ _ _ _ c.read-at_form.ensures.answer c.read-at_form.ensures.range c.in-Factor.is in
    let m = read_factor _ _ _ _ _ c.read-at_plan.ensures.answer c.read-at_plan.ensures.range c.in-Factor-at_plan.is in
    rw (
      on_lists_read k (λ ps. pair_answer ps s.shape s.form s.plan),
      k.given.accepted.none_applies,
      k.given.within,
      m.given.within,
      k.given.factor,
      m.given.factor,
      factor_bits k,
      factor_bits m,
      to_z-of_z {w = w32} (difference_fits k m),
    )
