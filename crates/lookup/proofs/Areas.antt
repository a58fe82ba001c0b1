-- The areas of an accepted curve.
--   size_of, area_at    as many as points, each that of the point there
--   least, most         2 to 64
--   outside_is          row 7, by the first and the last point
--   reached_first       an area that is not outside is not below that of the first point
--   read_before_last, inside_at    the segment read has a right point, and the area is inside it
-- Assumes nothing.
use Rattle.std.proofs.Common.{◌≡◌, ℕ, suc, ◌+◌, ◌-◌, ◌≤◌, ◌<◌, min, arith, refl, inl, inr}
use Rattle.std.proofs.Common.{true, false, ◌||◌, ltb, List, length, get_or}
use native.Mathlib.Nat.{min-eq_left, min-eq_right}
use Rattle.exact.proofs.Tests.{compare}
use Rattle.model.specs.Answer.{Answer, gives, refused, ◌then◌}
use Rattle.model.proofs.Answers.{then_refused, refused_first}
use Rattle.model.proofs.Search.{Near, near_next, near_last}
use lib.ListN.{length-map, get_or-map}
use Rattle.model.specs.Points.{points_least, points_most, Point, rule_of}
use Rattle.model.specs.Read.{segment_read, outside}
use Rattle.model.specs.Inner.{origin, point_at, segment_at, areas_of, Good, Inside, Reached, LastOf}
use Rattle.model.proofs.Accepted.{count_of, inside_read}
use Rattle.model.proofs.Indexed.{read_inner}
use Rattle.model.proofs.Outside.{outside_of, not_before}
use Rattle.rows.specs.Inner.{accepts}
use Rattle.rows.proofs.Passing.{accepted}

pub size_of : (ps : List Point) → length (areas_of ps) ≡ length ps
size_of ps = length-map ps (λ p. p.area)

pub area_at : (ps : List Point) (i : ℕ) → get_or (areas_of ps) i 0 ≡ (point_at ps i).area
area_at ps i = get_or-map (λ p. p.area) ps i origin

-- the end of the second search
pub near_end : {areas : List ℕ} {n from x : ℕ} → length areas ≡ n → n ≤ points_most → LastOf areas from 8 (n - 1) x →
    Near areas n from (min (n - 1) (from + 8)) x
near_end {n = n} {from = from} size m l = elim (compare (n - 1) (from + 8)) [
  | inl (h, t) ↦ rw (min-eq_left h) (near_last size m l)
  | inr (h, t) ↦ rw (min-eq_right {n = from + 8} {m = n - 1} (omega arith)) (near_next size m l h)
]

-- what refuses before one result refuses before another
pub refused_alike : {A B : Type 0} {number place : ℕ} (rows : Answer (Unit {0})) (x : A) (y : B) →
    (rows then gives x) ≡ refused number place → (rows then gives y) ≡ refused number place
refused_alike rows x y e = then_refused rows (gives y) (refused_first rows x e)

pub outside_is : (ps : List Point) (x : ℕ) → 0 < length ps →
    outside ps x ≡ (ltb x (point_at ps 0).area || ltb (point_at ps (length ps - 1)).area x)
outside_is ps x some =
    let row_7 = outside_of ps refl (omega (arith, size_of ps)) x in
    rw (row_7, size_of ps, area_at ps 0, area_at ps (length ps - 1))

module _ (ps : List Point) (code : ℕ) (e : accepts ps code ≡ true) where
  pub least : points_least ≤ length ps
  least = (count_of (accepted ps code e)).0

  pub most : length ps ≤ points_most
  most = (count_of (accepted ps code e)).1

  pub reached_first : (x : ℕ) → outside ps x ≡ false → Reached (areas_of ps) 0 x
  reached_first x o =
      record {
        inner = omega (arith, size_of ps, least);
        low = not_before ps refl (omega (arith, size_of ps, least)) x o;
      }

  pub read_before_last : (x : ℕ) → suc (segment_read ps x) < length ps
  read_before_last x = read_inner ps x least

  pub inside_at : (x : ℕ) → outside ps x ≡ false → Inside (Good (rule_of code)) (segment_at ps (segment_read ps x)) x
  inside_at x o = inside_read (accepted ps code e) x o
