-- The points that a loop has decoded.
--   Decoded             the first i entries of three lists are the first points, and those after them are left
--   decoded_more        one more; decoded_ends, one that is not taken; decoded_all, no more
-- Assumes nothing.
use Rattle.std.proofs.Common.{◌≡◌, refl, sym, ◌∙◌, ℕ, suc, ◌+◌, ◌-◌, ◌<◌, ◌≤◌, add-one, arith, append_assoc, append-nil}
use Rattle.std.proofs.Common.{List, [], ◌∷◌, ◌++◌, map, length, take, set, ℤ}
use Rattle.std.proofs.Math.Option.{Option, none, some}
use Rattle.std.proofs.lemmas.List.{map-append, take_more_set}
use Rattle.model.specs.Points.{Point, points}
use Rattle.model.specs.Sheet.{tabulate}
use Rattle.model.proofs.Lists.{Fields, points_of_fields}
use Rattle.binary64.proofs.Values.{none≢some}
use Rattle.triples.specs.Triples.{WholePoint}
use Rattle.triples.specs.Inner.{ranged_point, ranged, whole_points}

none_left : (o : Option WholePoint) → none ≡ ranged o → o ≡ none
unfolding ranged
none_left none e = refl
none_left (some p) e = absurd (none≢some e)

-- o is a point that is q in range
record InRange (o : Option WholePoint) (q : Point) : Type 0 where
  pub p : WholePoint
  pub is : o ≡ some p
  pub in_range : ranged_point p ≡ q

in_range_of : (o : Option WholePoint) (q : Point) → some q ≡ ranged o → InRange o q
unfolding ranged
in_range_of none q e = absurd (none≢some (sym e))
in_range_of (some p) q e = record { p = p; is = refl; in_range = cc }

module _ (f : ℕ → Option WholePoint) (n : ℕ) where
  -- the points from i on, before one that is not taken
  abbrev left : ℕ → List Point
  left i = whole_points (tabulate f i (n - i))

  module _ (i : ℕ) where
    left_more : (p : WholePoint) → i < n → f i ≡ some p → left i ≡ ranged_point p ∷ left (i + 1)
    unfolding tabulate whole_points
    left_more p h e = let more : n - i ≡ suc (n - (i + 1)) = omega arith in rw (more, e, add-one i)

    left_none : i < n → f i ≡ none → left i ≡ []
    unfolding tabulate whole_points
    left_none h e = let more : n - i ≡ suc (n - (i + 1)) = omega arith in rw (more, e)

    left_done : n ≤ i → left i ≡ []
    unfolding tabulate whole_points
    left_done h = let done : n - i ≡ 0 = omega arith in rw done

  -- the figures of the points are the first i entries of the lists
  pub record Decoded (areas values : List ℕ) (slopes : List ℤ) (i : ℕ) : Type 0 where
    pub ps : List Point
    pub fields : Fields ps (take i areas) (take i values) (take i slopes)
    pub is : ps ++ left i ≡ whole_points (tabulate f 0 n)

  module _ {areas values : List ℕ} {slopes : List ℤ} {i : ℕ} (k : Decoded areas values slopes i) where
    -- a field of one point more
    field_more : {B : Type 0} (field : Point → B) (p : Point) (l : List B) → map field k.ps ≡ take i l → i < length l →
        map field (k.ps ++ p ∷ []) ≡ take (i + 1) (set l i (field p))
    field_more field p l e h = rw (map-append field k.ps (p ∷ []), e, take_more_set l i (field p) h) refl

    pub decoded_more : (p : Point) → i < n → i < length areas → i < length values → i < length slopes →
        some p ≡ ranged (f i) → Decoded (set areas i p.area) (set values i p.value) (set slopes i p.slope) (i + 1)
    decoded_more p h a v s e =
        let q = in_range_of (f i) p e in
        record {
          ps = k.ps ++ p ∷ [];
          fields = record {
            areas_are = field_more (λ p. p.area) p areas k.fields.areas_are a;
            values_are = field_more (λ p. p.value) p values k.fields.values_are v;
            slopes_are = field_more (λ p. p.slope) p slopes k.fields.slopes_are s;
          };
          is = rw (append_assoc, ← q.in_range, ← left_more i q.p h q.is) k.is;
        }

    all_here : left i ≡ [] → points (take i areas) (take i values) (take i slopes) ≡ whole_points (tabulate f 0 n)
    all_here e =
        rw (← k.fields.areas_are, ← k.fields.values_are, ← k.fields.slopes_are)
        (points_of_fields k.ps ∙ sym (append-nil _) ∙ rw e at k.is)

    pub decoded_all : n ≤ i → points (take i areas) (take i values) (take i slopes) ≡ whole_points (tabulate f 0 n)
    decoded_all h = all_here (left_done i h)

    pub decoded_ends : i < n → none ≡ ranged (f i) →
        points (take i areas) (take i values) (take i slopes) ≡ whole_points (tabulate f 0 n)
    decoded_ends h e = all_here (left_none i h (none_left (f i) e))
