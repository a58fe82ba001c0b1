-- Areas of entries increase, so a division gives the first beyond the last point.
use Rattle.std.proofs.Common.{◌≡◌, ℕ, ◌+◌, ◌-◌, ◌*◌, ◌/◌, ◌≤◌, ◌<◌, true, false, List, length, refl, sym, arith}
use native.Mathlib.Nat.{zero-mul, add-zero, le-div_iff_mul-le, lt-div-mul-add}
use Rattle.model.specs.Points.{Point}
use Rattle.model.specs.Read.{outside}
use Rattle.model.specs.Inner.{areas_of, first_answer}
use Rattle.model.specs.Sheet.{entry_rows}
use Rattle.model.proofs.Outside.{last, not_before, not_beyond, inside_of_both, outside_of_beyond}
use Rattle.model.proofs.Places.{each_first}
use Rattle.lookup.proofs.Areas.{size_of, area_at}
use Rattle.entries.proofs.first_outside.Goals as goal
use Rattle.entries.proofs.first_outside.Goals.{After-area}

-- the last entry inside is as many whole steps from the first as there are up to the last area
module _ (ps : List Point) (some : 0 < length (areas_of ps)) (start step : ℕ) (up : 0 < step)
    (within : outside ps start ≡ false) where
  entry_inside : (j : ℕ) → j < (last (areas_of ps) - start) / step + 1 → outside ps (start + j * step) ≡ false
  entry_inside j h =
      let low = not_before ps refl some start within in
      let high = not_beyond ps refl some start within in
      let fits : j * step ≤ last (areas_of ps) - start = (le-div_iff_mul-le up).0 (omega arith) in
      inside_of_both ps refl some (start + j * step) (omega arith) (omega arith)

  next_outside : outside ps (start + ((last (areas_of ps) - start) / step + 1) * step) ≡ true
  next_outside =
      let past = lt-div-mul-add {a = last (areas_of ps) - start} up in
      outside_of_beyond ps refl some (start + ((last (areas_of ps) - start) / step + 1) * step) (omega arith)

  found : (n : ℕ) → first_answer 7 ((last (areas_of ps) - start) / step + 1) n ≡ entry_rows ps start step n
  found n = each_first _ 7 _ n entry_inside (λ h. next_outside)

pub returns-then-outside : goal.returns-then-outside
returns-then-outside g c n =
    each_first _ 7 0 n (λ j h. absurd (omega arith)) (λ h. rw (zero-mul, add-zero) (sym c.if-outside.ensures))

last_is : (g : _) (c : After-area g) → c.area.result ≡ last (areas_of (g.P.Points.points c.args.points.now))
last_is g c =
    let ps = g.P.Points.points c.args.points.now in
    rw (size_of ps, area_at ps (length ps - 1), ← c.count.ensures) c.area.ensures

some_areas : (g : _) (c : After-area g) → 0 < length (areas_of (g.P.Points.points c.args.points.now))
some_areas g c = rw (size_of (g.P.Points.points c.args.points.now)) c.requires.points

pub overflow_sub-result : goal.overflow_sub-result
overflow_sub-result g c =
    let at = (goal.at.overflow_sub-result g c).After-area in
    rw (last_is g at) (not_beyond _ refl (some_areas g at) c.args.steps.start (sym c.if-outside.ensures))

pub returns : goal.returns
returns g c n =
    let at = (goal.at.returns g c).After-area in
    rw (last_is g at)
    (found _ (some_areas g at) c.args.steps.start c.args.steps.step c.requires.step (sym c.if-outside.ensures) n)
