-- What is proved of the filling.
-- Assumes nothing.
use mathlib.Core.Path.{◌≡◌, refl, sym, ◌∙◌, ap}
use mathlib.Core.Bool.{false}
use mathlib.Core.List.{List, append-nil}
use mathlib.Core.Logic.{inl, inr}
use Prim.Native.Nat.{ℕ, ◌+◌, ◌-◌, ◌<◌}
use native.Mathlib.Nat.{zero-add}
use native.Mathlib.Omega.{arith}
use borrow.Author.Tests.{eq-eqb}
use lib.IntN.{ℤ, pos}
use lib.ListN.{length, get_or}
use lib.Seq.{drop-length}
use Rattle.exact.proofs.Tests.{≤_of_lt_z_false}
use Rattle.exact.proofs.Fractions.{positivity}
use Rattle.exact.proofs.Floor.{floor_greatest}
use Rattle.model.specs.Answer.{gives, ◌then◌, filled}
use Rattle.model.specs.Points.{points, segments}
use Rattle.model.specs.Check.{lengths_differ, check_answer, on_lists}
use Rattle.model.specs.Inner.{Alike}
use Rattle.model.proofs.Answers.{on_lists_is}
use Rattle.model.proofs.Lists.{fields_of, fields_length}
use Rattle.model.proofs.Filling.{tabulate_length, tabulate_at}
use Rattle.model.proofs.Indexed.{segments_length}
use Rattle.harmonic.specs.Rule.{hundredths, figure, figures}
use Rattle.harmonic.specs.Fill.{too_steep, fill_answer, slopes_after}
use Rattle.harmonic.specs.Inner.{Climbing}
use Rattle.harmonic.specs.Laws.{FilledSlopes}
use Rattle.harmonic.proofs.Rising.{Suits, rising_rows, zero_slope_rows, climbing_of}
use Rattle.harmonic.proofs.Answers.{Given, given}
use Rattle.harmonic.proofs.Figures.{regular, not_negative, level}

same_of : {areas values slopes : ℕ} → Alike areas values slopes → lengths_differ areas values slopes ≡ false
unfolding lengths_differ
same_of k = rw (eq-eqb _ _ k.values_too, eq-eqb _ _ k.slopes_too)

module _ (areas values : List ℕ) where
  figures_size : length (figures areas values) ≡ length areas
  figures_size = tabulate_length (figure areas values) 0 (length areas)

  figure_at : (i : ℕ) → i < length areas → get_or (figures areas values) i (pos 0) ≡ figure areas values i
  figure_at i h = tabulate_at (figure areas values) (pos 0) 0 i (length areas) h ∙ ap (figure areas values) (zero-add i)

module _ (areas values : List ℕ) (slopes : List ℤ) (n : ℕ) (e : fill_answer areas values (length slopes) ≡ gives n) where
  abbrev g : Given areas values (length slopes) n
  g = given areas values (length slopes) n e

  climbs : Climbing areas values
  climbs = climbing_of areas values g.alike.values_too g.rows_pass

  after : slopes_after areas values slopes ≡ figures areas values
  unfolding filled
  after =
      let size : length (figures areas values) ≡ length slopes = figures_size areas values ∙ g.alike.slopes_too in
      rw (e, size, drop-length slopes) (append-nil (figures areas values))

  suits : Suits values (figures areas values)
  unfolding too_steep
  suits =
      let size = figures_size areas values in
      let same = g.alike.values_too in
      record {
        least = λ i h. rw (figure_at areas values i (omega arith)) (not_negative climbs i (omega arith));
        most = λ i h. rw (figure_at areas values i (omega arith)) (≤_of_lt_z_false (g.gentle i (omega arith)));
        level = λ i h flat.
            let zero_rise : get_or values (i + 1) 0 - get_or values i 0 ≡ 0 = omega arith in (
              figure_at areas values i (omega arith) ∙ level climbs i i (omega arith) (omega arith) (inl refl) zero_rise,
              figure_at areas values (i + 1) (omega arith)
                  ∙ level climbs (i + 1) i (omega arith) (omega arith) (inr refl) zero_rise,
            );
      }

  passes : on_lists areas values (slopes_after areas values slopes) (λ ps. check_answer ps 1) ≡ gives (n - 1)
  unfolding check_answer ◌then◌
  passes =
      let alike : Alike (length areas) (length values) (length (figures areas values)) =
      record { values_too = g.alike.values_too; slopes_too = sym (figures_size areas values) } in
      let ps = points areas values (figures areas values) in
      let rows = rising_rows areas values _ alike suits ∙ sym (zero_slope_rows areas values g.alike.values_too) ∙ g.rows_pass in
      let size = fields_length (fields_of areas values (figures areas values) alike) in
      let number : length (segments ps) ≡ n - 1 = omega (arith, segments_length ps, size, g.number) in
      rw after (on_lists_is areas values (figures areas values) (λ ps. check_answer ps 1) (same_of alike)
      ∙ (rw rows (ap gives number)))

  entry : (i : ℕ) → i < n → get_or (slopes_after areas values slopes) i (pos 0) ≡ figure areas values i
  entry i h = rw after (figure_at areas values i (omega (arith, g.number)))

  again : fill_answer areas values (length (slopes_after areas values slopes)) ≡ gives n
  again = rw (after, figures_size areas values, g.alike.slopes_too) e

pub filled_slopes : FilledSlopes
unfolding hundredths
filled_slopes areas values slopes n e =
    let k = climbs areas values slopes n e in
    let inside : (i : ℕ) → i < n → i < length areas = λ i h. omega (arith, (g areas values slopes n e).number) in
    record {
      passes = passes areas values slopes n e;
      proper = λ i h. (regular k i (inside i h)).proper;
      rounded_down = λ i h.
          let p = (regular k i (inside i h)).proper in
          rw (entry areas values slopes n e i h) (floor_greatest _ (search positivity));
      not_negative = λ i h. rw (entry areas values slopes n e i h) (not_negative k i (inside i h));
      again = again areas values slopes n e;
      same =
          after areas values (slopes_after areas values slopes) n (again areas values slopes n e)
          ∙ sym (after areas values slopes n e);
    }
