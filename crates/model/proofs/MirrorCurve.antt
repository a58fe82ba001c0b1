-- A curve and its mirror, point by point.
--   mirror_accepted              a curve accepted under 3 (4) is, mirrored, accepted under 1 (2); its exact values are 200,000
--                                less the mirror's (specs/Laws.antt)
--   mirror_curve, mirror_area    that curve; it has the same areas
-- Assumes nothing.
use mathlib.Core.Path.{◌≡◌, refl, ◌∙◌, ap}
use mathlib.Core.Bool.{false, cond}
use lib.Dec.{leb}
use mathlib.Core.List.{List, [], ◌∷◌, map}
use mathlib.Core.Option.{Option, none, some}
use Prim.Native.Nat.{ℕ, zero, suc, ◌-◌, ◌≤◌, ◌<◌}
use native.Mathlib.Omega.{arith}
use borrow.Author.Tests.{le-ltb}
use lib.IntN.{pos}
use lib.ListN.{length, length-map}
use Rattle.exact.specs.Fraction.{whole, ◌-ℚ◌}
use Rattle.exact.proofs.Tests.{lt_z_false_of_≤}
use Rattle.model.specs.Answer.{gives, row, ◌then◌}
use Rattle.model.specs.Points.{value_most, Point, Segment, segments, Shape}
use Rattle.model.specs.Points.{mirror, mirror_segment, plain, mirrored}
use Rattle.model.specs.Interpolant.{exact_curve}
use Rattle.model.specs.Shape.{segment_test}
use Rattle.model.specs.Check.{bad_value, bad_slope, point_rows, segment_rows}
use Rattle.model.specs.Read.{last_from, segment_read, exact_value, last_area, outside}
use Rattle.model.specs.Laws.{Curve, Area, MirrorAccepted}
use Rattle.model.specs.Inner.{Accepted, point_at, segment_at, Limits}
use Rattle.model.proofs.Codes.{plain_of, mirrored_of}
use Rattle.model.proofs.Mirror.{mirror_limits}
use Rattle.model.proofs.Rows.{passed}
use Rattle.model.proofs.Indexed.{read_inner}
use Rattle.model.proofs.Accepted.{count_of, code_of, points_pass, segments_pass, accepted_of}
use Rattle.model.proofs.AsRead.{used_own}

-- ---- rows 3 to 6

slope_passes : {p : Point} → Limits p → bad_slope p.slope ≡ false
unfolding bad_slope
slope_passes l = rw (lt_z_false_of_≤ l.slope_low, lt_z_false_of_≤ l.slope_high)

points_mirror : (i : ℕ) (before : Option ℕ) (ps : List Point) → point_rows i before ps ≡ gives tt →
    point_rows i before (map mirror ps) ≡ gives tt
unfolding point_rows mirror bad_value row ◌then◌
points_mirror i before [] e = refl
points_mirror i before (p ∷ ps) e =
    let m = passed i before p ps e in
    let l = mirror_limits m.limits in
    rw (m.area, le-ltb value_most _ l.value, slope_passes l) (points_mirror (suc i) (some p.area) ps m.later)

segments_mirror : (ps : List Point) → segments (map mirror ps) ≡ map mirror_segment (segments ps)
unfolding segments
segments_mirror [] = refl
segments_mirror (p ∷ []) = refl
segments_mirror (p ∷ q ∷ ps) =
    ap (λ (ss : List Segment). record { left = mirror p; right = mirror q } ∷ ss) (segments_mirror (q ∷ ps))

rows_mirror : (i : ℕ) (shape : Shape) (ss : List Segment) →
    segment_rows i (plain shape) (map mirror_segment ss) ≡ segment_rows i (mirrored shape) ss
unfolding segment_rows segment_test
rows_mirror i shape [] = refl
rows_mirror i shape (s ∷ ss) = rw (rows_mirror (suc i) shape ss)

-- ---- the exact value

last_mirror : (x last i : ℕ) (ss : List Segment) → last_from x last i (map mirror_segment ss) ≡ last_from x last i ss
unfolding last_from mirror
last_mirror x last i [] = refl
last_mirror x last i (s ∷ ss) = last_mirror x (cond (leb s.left.area x) i last) (suc i) ss

read_mirror : (ps : List Point) (x : ℕ) → segment_read (map mirror ps) x ≡ segment_read ps x
unfolding segment_read
read_mirror ps x = rw (segments_mirror ps) (last_mirror x 0 0 (segments ps))

point_mirror : (ps : List Point) (i : ℕ) → i < length ps → point_at (map mirror ps) i ≡ mirror (point_at ps i)
point_mirror [] i h = absurd (omega arith)
point_mirror (p ∷ ps) zero h = refl
point_mirror (p ∷ ps) (suc i) h = point_mirror ps i (omega arith)

segment_mirror : (ps : List Point) (i : ℕ) → suc i < length ps →
    segment_at (map mirror ps) i ≡ mirror_segment (segment_at ps i)
segment_mirror ps i h = rw (point_mirror ps i (omega arith), point_mirror ps (suc i) h)

value_mirror : (shape : Shape) (x : ℕ) (ps : List Point) → 2 ≤ length ps →
    exact_curve (mirrored shape) (segment_at ps (segment_read ps x)) x
    ≡ whole (pos value_most) -ℚ exact_curve (plain shape) (segment_at (map mirror ps) (segment_read (map mirror ps) x)) x
unfolding exact_curve
value_mirror shape x ps h = rw (read_mirror ps x, segment_mirror ps (segment_read ps x) (read_inner ps x h))

-- ---- the curve

last_area_mirror : (p : Point) (ps : List Point) → last_area (mirror p) (map mirror ps) ≡ last_area p ps
unfolding mirror
last_area_mirror p [] = refl
last_area_mirror p (q ∷ ps) = last_area_mirror q ps

outside_mirror : (ps : List Point) (x : ℕ) → outside (map mirror ps) x ≡ outside ps x
unfolding outside mirror
outside_mirror [] x = refl
outside_mirror (p ∷ ps) x = rw (last_area_mirror p ps)

module _ (c : Curve) where
  accepted : Accepted c.points c.code
  accepted = record { none_applies = c.accepted }

  mirror_rows : 2 < c.code → Accepted (map mirror c.points) (c.code - 2)
  mirror_rows h =
      let m = code_of accepted in
      let most : c.code - 2 ≤ 2 = omega arith in
      accepted_of (map mirror c.points) (c.code - 2) (rw (length-map c.points mirror) (count_of accepted))
      (omega arith, omega arith) (points_mirror 0 none _ (points_pass accepted))
      (rw (plain_of most, segments_mirror c.points, rows_mirror) (rw (mirrored_of h) at (segments_pass accepted)))

  pub mirror_accepted : MirrorAccepted c
  unfolding exact_value
  mirror_accepted h =
      let m = code_of accepted in
      let most : c.code - 2 ≤ 2 = omega arith in (
        (mirror_rows h).none_applies,
        λ x.
            rw (used_own c.points c.code (λ e. omega arith), mirrored_of h, plain_of most)
            (value_mirror _ x c.points (count_of accepted).0),
      )

  module _ (h : 2 < c.code) where
    abbrev pub mirror_curve : Curve
    mirror_curve = record { points = map mirror c.points; code = c.code - 2; accepted = (mirror_accepted h).0 }

    pub mirror_area : (x : ℕ) → Area c x → Area mirror_curve x
    mirror_area x k = record { within = outside_mirror c.points x ∙ k.within }
