-- Row 7 by the first and the last area of a curve.
--   first, last                  the first and the last of a list of areas
--   outside_of                   row 7 of points that have these areas, as flat_points have
--   not_before, not_beyond       what holds of an area that is not outside
--   inside_of_both, outside_of_beyond    and back
-- Assumes nothing.
use mathlib.Core.Path.{◌≡◌, refl, sym, ◌∙◌, ap}
use mathlib.Core.Bool.{true, false, ◌||◌, or-true}
use mathlib.Core.List.{List, [], ◌∷◌, map}
use Prim.Native.Nat.{ℕ, ◌-◌, ◌≤◌, ◌<◌}
use native.Mathlib.Omega.{arith}
use borrow.Author.Tests.{ltb-false, lt-ltb, le-ltb}
use lib.Dec.{ltb}
use lib.IntN.{pos}
use lib.ListN.{length, get_or, length-map}
use Rattle.model.specs.Points.{Point}
use Rattle.model.specs.Read.{outside}
use Rattle.model.specs.Inner.{areas_of}
use Rattle.exact.proofs.Tests.{or_left, or_right}
use Rattle.model.proofs.Indexed.{last_area_at}

abbrev pub first : List ℕ → ℕ
first areas = get_or areas 0 0

abbrev pub last : List ℕ → ℕ
last areas = get_or areas (length areas - 1) 0

-- there are points that have these areas
abbrev pub flat_points : List ℕ → List Point
flat_points areas = map (λ a. record { area = a; value = 0; slope = pos 0 }) areas

pub flat_areas : (areas : List ℕ) → areas_of (flat_points areas) ≡ areas
flat_areas [] = refl
flat_areas (a ∷ areas) = ap (a ∷◌) (flat_areas areas)

outside_at : (ps : List Point) (x : ℕ) → 0 < length ps →
    outside ps x ≡ (ltb x (first (areas_of ps)) || ltb (last (areas_of ps)) x)
unfolding outside
outside_at [] x h = absurd (omega arith)
outside_at (p ∷ ps) x h = rw (last_area_at p ps, index) refl
  where
    index : length (areas_of (p ∷ ps)) - 1 ≡ length ps
    index = omega (arith, length-map ps (λ p. p.area))

module _ (ps : List Point) {areas : List ℕ} (are : areas_of ps ≡ areas) (some : 0 < length areas) (x : ℕ) where
  pub outside_of : outside ps x ≡ (ltb x (first areas) || ltb (last areas) x)
  outside_of = rw are at (outside_at ps x (omega (arith, length-map ps (λ p. p.area), ap length are)))

  pub not_before : outside ps x ≡ false → first areas ≤ x
  not_before e = ltb-false x (first areas) (or_left _ (ltb (last areas) x) (sym outside_of ∙ e))

  pub not_beyond : outside ps x ≡ false → x ≤ last areas
  not_beyond e = ltb-false (last areas) x (or_right (ltb x (first areas)) _ (sym outside_of ∙ e))

  pub inside_of_both : first areas ≤ x → x ≤ last areas → outside ps x ≡ false
  inside_of_both h k = rw (outside_of, le-ltb x _ h, le-ltb _ x k)

  pub outside_of_beyond : last areas < x → outside ps x ≡ true
  outside_of_beyond h = rw (outside_of, lt-ltb _ x h) (or-true (ltb x (first areas)))
