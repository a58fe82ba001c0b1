-- Points that come in three lists.
--   Fields          the three lists that the fields of some points make
--   fields_of       the points of three lists that are equally long have these fields
--   fields_length   as many points as areas; fields_at, the point at an index
--   points_of_fields    the points of the lists of some points are these; same_lengths_of, which are equally long
-- Assumes nothing.
use mathlib.Core.Path.{◌≡◌, refl, sym, ◌∙◌, ap}
use mathlib.Core.Bool.{false}
use mathlib.Core.List.{List, [], ◌∷◌, map}
use Prim.Native.Nat.{ℕ}
use native.Mathlib.Omega.{arith}
use borrow.Author.Tests.{eq-eqb}
use lib.IntN.{ℤ, pos}
use lib.ListN.{length, get_or, length-map, get_or-map}
use Rattle.model.specs.Points.{Point, points}
use Rattle.model.specs.Check.{lengths_differ}
use Rattle.model.specs.Inner.{Alike, areas_of, origin, point_at}

pub record Fields (ps : List Point) (areas values : List ℕ) (slopes : List ℤ) : Type 0 where
  pub areas_are : areas_of ps ≡ areas
  pub values_are : map (λ p. p.value) ps ≡ values
  pub slopes_are : map (λ p. p.slope) ps ≡ slopes

pub fields_of : (areas values : List ℕ) (slopes : List ℤ) → Alike (length areas) (length values) (length slopes) →
    Fields (points areas values slopes) areas values slopes
unfolding points
fields_of [] [] [] k = record { areas_are = refl; values_are = refl; slopes_are = refl }
fields_of [] [] (s ∷ slopes) k = absurd (omega arith)
fields_of [] (v ∷ values) slopes k = absurd (omega arith)
fields_of (a ∷ areas) [] slopes k = absurd (omega arith)
fields_of (a ∷ areas) (v ∷ values) [] k = absurd (omega arith)
fields_of (a ∷ areas) (v ∷ values) (s ∷ slopes) k =
    let f = fields_of areas values slopes (record { values_too = omega arith; slopes_too = omega arith }) in
    record {
      areas_are = ap (a ∷◌) f.areas_are;
      values_are = ap (v ∷◌) f.values_are;
      slopes_are = ap (s ∷◌) f.slopes_are;
    }

module _ {ps : List Point} {areas values : List ℕ} {slopes : List ℤ} (f : Fields ps areas values slopes) where
  pub fields_length : length ps ≡ length areas
  fields_length = sym (length-map ps (λ p. p.area)) ∙ ap length f.areas_are

  pub fields_at : (i : ℕ) →
      point_at ps i ≡ record { area = get_or areas i 0; value = get_or values i 0; slope = get_or slopes i (pos 0) }
  fields_at i =
      let area : (point_at ps i).area ≡ get_or areas i 0 = cc (f.areas_are, get_or-map (λ p. p.area) ps i origin) in
      let value : (point_at ps i).value ≡ get_or values i 0 = cc (f.values_are, get_or-map (λ p. p.value) ps i origin) in
      let slope : (point_at ps i).slope ≡ get_or slopes i (pos 0) = cc (f.slopes_are, get_or-map (λ p. p.slope) ps i origin) in
      rw (← area, ← value, ← slope)

-- ---- the lists of some points

pub points_of_fields : (ps : List Point) → points (areas_of ps) (map (λ p. p.value) ps) (map (λ p. p.slope) ps) ≡ ps
unfolding points
points_of_fields [] = refl
points_of_fields (p ∷ ps) = ap (p ∷◌) (points_of_fields ps)

pub same_lengths_of : (ps : List Point) →
    lengths_differ (length (areas_of ps)) (length (map (λ p. p.value) ps)) (length (map (λ p. p.slope) ps)) ≡ false
unfolding lengths_differ
same_lengths_of ps =
    rw (length-map ps (λ p. p.area), length-map ps (λ p. p.value), length-map ps (λ p. p.slope), eq-eqb (length ps) _ refl)
