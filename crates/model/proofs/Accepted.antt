-- An accepted curve, as a chain of segments that each have their shape.
--   count_of       2 to 64 points; code_of, a code from 1 to 4; points_pass, segments_pass, rows 3 to 6
--   accepted_of    and back from these
--   limits_of      each point keeps its limits
--   neighbours_of_rows    points that pass rows 1 and 3 to 5 are a chain; good_of_rows, and row 6 too
--   chained_of     the points of an accepted curve are a chain of good segments
--   value_is       the exact value at an area is that of the segment where a walk from the left stops
--   inside_read    an area that is not outside is inside the segment read
--   read_is        an index that an area takes is that of the segment read; inside, reading_is, what follows
-- Assumes nothing.
use mathlib.Core.Path.{◌≡◌, ap, subst⁻¹}
use mathlib.Core.Bool.{false, not}
use mathlib.Core.List.{List, [], ◌∷◌}
use mathlib.Core.Option.{Option, none, some}
use Prim.Native.Nat.{ℕ, zero, suc, ◌≤◌, ◌<◌}
use native.Mathlib.Nat.{le_trans}
use native.Mathlib.Omega.{arith}
use borrow.Author.Tests.{le-ltb, not-false}
use lib.Dec.{T}
use lib.ListN.{length}
use Rattle.exact.specs.Rounding.{round}
use Rattle.model.specs.Answer.{gives, row, ◌then◌}
use Rattle.model.specs.Points.{points_least, points_most, area_most, Point, Segment, segments, Rule, rule_of}
use Rattle.model.specs.Interpolant.{exact_curve}
use Rattle.model.specs.Shape.{segment_test}
use Rattle.model.specs.Check.{bad_count, bad_code, point_rows, segment_rows, curve_rows}
use Rattle.model.specs.Read.{segment_read, outside, exact_value, reading}
use Rattle.model.specs.Inner.{Accepted, between, point_at, segment_at, areas_of, Limits, Neighbours, Good}
use Rattle.model.specs.Inner.{Inside, Taken, Readable}
use Rattle.model.proofs.Walk.{Chain, end, link, good_ordered}
use Rattle.model.proofs.Indexed.{Chained, chained, stop_in, index_is, read_stops, stop_in_inside}
use Rattle.model.proofs.Rows.{then_first, then_rest, row_passed, count_of_row_1, code_of_row_2, passed, neighbours}

neighbour_chain : (i : ℕ) (p : Point) (ps : List Point) → Limits p → point_rows i (some p.area) ps ≡ gives tt →
    Chain Neighbours p ps
neighbour_chain i p [] l e = end
neighbour_chain i p (q ∷ ps) l e =
    let m = passed i (some p.area) q ps e in
    link (neighbours l m) (neighbour_chain (suc i) q ps m.limits m.later)

good_chain : (rule : Rule) (i : ℕ) {p : Point} {ps : List Point} → Chain Neighbours p ps →
    segment_rows i rule (segments (p ∷ ps)) ≡ gives tt → Chain (Good rule) p ps
unfolding segments segment_rows
good_chain rule i end e = end
good_chain rule i (link {p = p} {q = q} n c) e =
    let shaped = row_passed (not (segment_test rule (between p q))) 6 i _ e in
    link (record { ends = n; shaped = subst⁻¹ T (not-false (segment_test rule (between p q)) shaped) tt })
    (good_chain rule (suc i) c (then_rest (row (not (segment_test rule (between p q))) 6 i) _ e))

-- rows 3 to 5, point by point
limited : (i : ℕ) (before : Option ℕ) (ps : List Point) → point_rows i before ps ≡ gives tt → (j : ℕ) → j < length ps →
    Limits (point_at ps j)
limited i before [] e j h = absurd (omega arith)
limited i before (p ∷ ps) e zero h = (passed i before p ps e).limits
limited i before (p ∷ ps) e (suc j) h = limited (suc i) (some p.area) ps (passed i before p ps e).later j (omega arith)

-- rows 1 and 3 to 5, then 6, as facts
pub neighbours_of_rows : (ps : List Point) → points_least ≤ length ps → point_rows 0 none ps ≡ gives tt → Chained Neighbours ps
neighbours_of_rows [] h e = absurd (omega arith)
neighbours_of_rows (p ∷ []) h e = absurd (omega arith)
neighbours_of_rows (p ∷ q ∷ ps) h e =
    let m = passed 0 none p (q ∷ ps) e in
    chained (neighbour_chain 1 p (q ∷ ps) m.limits m.later)

pub good_of_rows : (rule : Rule) {ps : List Point} → Chained Neighbours ps → segment_rows 0 rule (segments ps) ≡ gives tt →
    Chained (Good rule) ps
good_of_rows rule (chained c) e = chained (good_chain rule 0 c e)

pub accepted_of : (ps : List Point) (code : ℕ) → (points_least ≤ length ps) × (length ps ≤ points_most) →
    (1 ≤ code) × (code ≤ 4) → point_rows 0 none ps ≡ gives tt → segment_rows 0 (rule_of code) (segments ps) ≡ gives tt →
    Accepted ps code
unfolding curve_rows bad_count bad_code row ◌then◌
accepted_of ps code n c p q =
    record {
      none_applies = rw (le-ltb _ points_least n.0, le-ltb points_most _ n.1, le-ltb code 1 c.0, le-ltb 4 code c.1, p, q);
    }

module _ {ps : List Point} {code : ℕ} (k : Accepted ps code) where
  pub count_of : (points_least ≤ length ps) × (length ps ≤ points_most)
  unfolding curve_rows
  count_of = count_of_row_1 (length ps) (row_passed (bad_count (length ps)) 1 0 _ k.none_applies)

  after_1 : (row (bad_code code) 2 0 then point_rows 0 none ps then segment_rows 0 (rule_of code) (segments ps)) ≡ gives tt
  unfolding curve_rows
  after_1 = then_rest (row (bad_count (length ps)) 1 0) _ k.none_applies

  after_2 : (point_rows 0 none ps then segment_rows 0 (rule_of code) (segments ps)) ≡ gives tt
  after_2 = then_rest (row (bad_code code) 2 0) _ after_1

  pub code_of : (1 ≤ code) × (code ≤ 4)
  code_of = code_of_row_2 code (row_passed (bad_code code) 2 0 _ after_1)

  pub points_pass : point_rows 0 none ps ≡ gives tt
  points_pass = then_first (point_rows 0 none ps) _ after_2

  pub segments_pass : segment_rows 0 (rule_of code) (segments ps) ≡ gives tt
  segments_pass = then_rest (point_rows 0 none ps) _ after_2

  pub limits_of : (i : ℕ) → i < length ps → Limits (point_at ps i)
  limits_of = limited 0 none ps points_pass

  pub chained_of : Chained (Good (rule_of code)) ps
  chained_of = good_of_rows (rule_of code) (neighbours_of_rows ps count_of.0 points_pass) segments_pass

  pub stops_inside : (x : ℕ) → outside ps x ≡ false → Inside (Good (rule_of code)) (stop_in ps x) x
  stops_inside = stop_in_inside (Good (rule_of code)) good_ordered chained_of

  pub area_limit : (x : ℕ) → outside ps x ≡ false → x ≤ area_most
  area_limit x e =
      let i = stops_inside x e in
      le_trans i.high i.good.ends.right.area

module _ {ps : List Point} {code : ℕ} (k : Accepted ps code) (x : ℕ) where
  stop_is : segment_at ps (segment_read ps x) ≡ stop_in ps x
  stop_is = read_stops (Good (rule_of code)) good_ordered (chained_of k) x

  pub value_is : exact_value ps code x ≡ exact_curve (rule_of code) (stop_in ps x) x
  unfolding exact_value
  value_is = ap (λ (s : Segment). exact_curve (rule_of code) s x) stop_is

  pub inside_read : outside ps x ≡ false → Inside (Good (rule_of code)) (segment_at ps (segment_read ps x)) x
  inside_read e = rw stop_is (stops_inside k x e)

module _ {ps : List Point} {code i x : ℕ} (k : Accepted ps code) (t : Taken (areas_of ps) i x) where
  pub read_is : segment_read ps x ≡ i
  read_is = index_is (Good (rule_of code)) good_ordered (chained_of k) i x t

  pub value_at_index : exact_value ps code x ≡ exact_curve (rule_of code) (segment_at ps i) x
  unfolding exact_value
  value_at_index = ap (λ (j : ℕ). exact_curve (rule_of code) (segment_at ps j) x) read_is

module _ {ps : List Point} {code i x : ℕ} (k : Readable ps code i x) where
  pub inside : Inside (Good (rule_of code)) (segment_at ps i) x
  inside = rw (read_is k.accepted k.taken) at (inside_read k.accepted x k.within)

  pub reading_is : reading ps code x ≡ round (exact_curve (rule_of code) (segment_at ps i) x)
  unfolding reading
  reading_is = ap round (value_at_index k.accepted k.taken)
