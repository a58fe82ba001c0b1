-- What answers of the calls say.
--   on_lists_is        a call on lists that are equally long is the call on their points
--   on_lists_of_is     on the lists of some points it is the call on these
--   on_lists_gives     where one gives a result the lists are equally long
--   on_lists_refused   calls that refuse alike on points do so on lists
--   Given              what a factor that Read gives says; reading_given
--   given_of_rows      rows 1 to 7 decide: they pass, and Read gives the factor; read_refused, they refuse, and Read does
--   refused_outside    on an accepted curve Read refuses by row 7 only
--   factor_is_high     no factor that Read gives is below −200,000
--   then_refused       rows that refuse, before whatever follows; refused_first, from before a result; refused_before; then_assoc
-- Assumes nothing.
use mathlib.Core.Path.{◌≡◌, refl, sym, ◌∙◌, ap, subst}
use mathlib.Core.Bool.{Bool, true, false}
use mathlib.Core.List.{List, map}
use mathlib.Core.Logic.{inl, inr}
use Prim.Native.Nat.{ℕ}
use lib.IntN.{ℤ, pos, neg_ℤ}
use lib.ListN.{length}
use lib.Signed.{◌≤ℤ◌}
use Rattle.exact.proofs.Tests.{true_or_false}
use Rattle.model.specs.Answer.{Answer, gives, refused, row, ◌then◌}
use Rattle.model.specs.Points.{Point, points}
use Rattle.model.specs.Check.{lengths_differ, curve_rows, on_lists, on_lists_of}
use Rattle.model.specs.Read as R
use Rattle.model.specs.Read.{outside, read_answer}
use Rattle.model.specs.Laws.{Curve}
use Rattle.model.specs.Inner.{read_rows, Accepted, Alike}
use Rattle.model.proofs.Laws.{factors_are_bounded}
use Rattle.model.proofs.Lists.{points_of_fields, same_lengths_of}
use Rattle.model.proofs.Rows.{gives_injective, refused≢gives, then_first, then_rest, row_passed, row_refused}
use Rattle.model.proofs.Rows.{alike_of_row_1}

-- ---- calls on lists

module _ (areas values : List ℕ) (slopes : List ℤ) where
  abbrev differ : Bool
  differ = lengths_differ (length areas) (length values) (length slopes)

  pub on_lists_is : {A : Type 0} (call : List Point → Answer A) → differ ≡ false →
      on_lists areas values slopes call ≡ call (points areas values slopes)
  unfolding on_lists row ◌then◌
  on_lists_is call e = rw e

  pub record Result {A : Type 0} (call : List Point → Answer A) (x : A) : Type 0 where
    pub same_lengths : differ ≡ false
    pub alike : Alike (length areas) (length values) (length slopes)
    pub result : call (points areas values slopes) ≡ gives x

  pub on_lists_gives : {A : Type 0} {x : A} (call : List Point → Answer A) → on_lists areas values slopes call ≡ gives x →
      Result call x
  unfolding on_lists
  on_lists_gives call e =
      let same = row_passed differ 1 0 _ e in
      record { same_lengths = same; alike = alike_of_row_1 _ _ _ same; result = then_rest (row differ 1 0) _ e }

  pub on_lists_refused : {A B : Type 0} {n i : ℕ} (f : List Point → Answer A) (g : List Point → Answer B) →
      (f (points areas values slopes) ≡ refused n i → g (points areas values slopes) ≡ refused n i) →
      on_lists areas values slopes f ≡ refused n i →
      on_lists areas values slopes g ≡ refused n i
  unfolding on_lists row ◌then◌
  on_lists_refused f g h e = elim (true_or_false differ) [
    | inl d ↦ let own = rw d at e in rw d (cc)
    | inr d ↦ rw d (h (rw d at e))
  ]

-- the lists of some points are equally long, and their points are these
pub on_lists_of_is : {A : Type 0} (ps : List Point) (call : List Point → Answer A) → on_lists_of ps call ≡ call ps
on_lists_of_is ps call =
    on_lists_is (map (λ p. p.area) ps) (map (λ p. p.value) ps) (map (λ p. p.slope) ps) call (same_lengths_of ps)
    ∙ ap call (points_of_fields ps)

pub then_refused : {A : Type 0} {n i : ℕ} (rows : Answer (Unit {0})) (rest : Answer A) → rows ≡ refused n i →
    (rows then rest) ≡ refused n i
unfolding ◌then◌
then_refused rows rest e = rw e

pub refused_first : {A : Type 0} {n i : ℕ} (rows : Answer (Unit {0})) (x : A) → (rows then gives x) ≡ refused n i →
    rows ≡ refused n i
unfolding ◌then◌
refused_first (gives u) x e = absurd (refused≢gives (sym e))
refused_first (refused n i) x e = cc

pub then_assoc : {A : Type 0} (x y : Answer (Unit {0})) (z : Answer A) → ((x then y) then z) ≡ (x then y then z)
unfolding ◌then◌
then_assoc (gives u) y z = refl
then_assoc (refused n i) y z = refl

-- ---- Read

pub record Given (ps : List Point) (code x : ℕ) (f : ℤ) : Type 0 where
  pub accepted : Accepted ps code
  pub within : outside ps x ≡ false
  pub factor : R.factor ps code x ≡ f

module _ (ps : List Point) (code x : ℕ) where
  pub given : {f : ℤ} → read_answer ps code x ≡ gives f → Given ps code x f
  unfolding read_answer
  given e =
      let later = then_rest (curve_rows ps code) _ e in
      record {
        accepted = record { none_applies = then_first (curve_rows ps code) _ e };
        within = row_passed (outside ps x) 7 0 _ later;
        factor = gives_injective (then_rest (row (outside ps x) 7 0) _ later);
      }

  pub reading_given : Accepted ps code → outside ps x ≡ false → read_answer ps code x ≡ gives (R.factor ps code x)
  unfolding read_answer row ◌then◌
  reading_given k e = rw (k.none_applies, e)

  by_rows : (read_rows ps code x then gives (R.factor ps code x)) ≡ read_answer ps code x
  unfolding read_answer
  by_rows = then_assoc (curve_rows ps code) (row (outside ps x) 7 0) _

  pub given_of_rows : read_rows ps code x ≡ gives tt → Given ps code x (R.factor ps code x)
  unfolding ◌then◌
  given_of_rows e = given (sym by_rows ∙ rw e)

  pub read_refused : {n i : ℕ} → read_rows ps code x ≡ refused n i → read_answer ps code x ≡ refused n i
  read_refused e = sym by_rows ∙ then_refused _ _ e

  pub refused_outside : {n i : ℕ} → Accepted ps code → read_answer ps code x ≡ refused n i → (n ≡ 7) × (outside ps x ≡ true)
  unfolding read_answer ◌then◌
  refused_outside k e = row_refused (outside ps x) 7 0 _ (rw k.none_applies at e)

-- no factor is below −200,000
pub factor_is_high : (ps : List Point) (code x : ℕ) {f : ℤ} → read_answer ps code x ≡ gives f → neg_ℤ (pos 200000) ≤ℤ f
factor_is_high ps code x e =
    let g = given ps code x e in
    let c : Curve = record { points = ps; code = code; accepted = g.accepted.none_applies } in
    subst (λ z. neg_ℤ (pos 200000) ≤ℤ z) g.factor (factors_are_bounded c x (record { within = g.within })).low

-- from before a result to before whatever follows
pub refused_before : {A B : Type 0} {n i : ℕ} (rows : Answer (Unit {0})) (b : Bool) (m : ℕ) (x : A) (rest : Answer B) →
    (rows then row b m 0 then gives x) ≡ refused n i →
    (rows then row b m 0 then rest) ≡ refused n i
unfolding row ◌then◌
refused_before (gives u) true m x rest e = cc
refused_before (gives u) false m x rest e = absurd (refused≢gives (sym e))
refused_before (refused m i) b n x rest e = cc
