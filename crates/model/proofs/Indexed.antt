-- A chain of points by the index of its segments.
--   Chained G ps    the points ps, at least two, are a chain of segments with G
--   stop_in ps x    where a walk from the left stops at x
--   read_inner      the index of the segment read is that of a segment; read_stops, on a chain the walk stops in that segment
--   chained_at      each segment of the chain has G; index_is, an index that an area takes is that of the segment read
--   across_chained  what spreads over a chain (`Spreads`) holds between any two areas that are not outside
--   point_at_append, segment_at_append     what follows some points, by their number; last_area_at, the last area
-- Assumes nothing.
use mathlib.Core.Path.{◌≡◌, refl, ◌∙◌, ap}
use mathlib.Core.Bool.{Bool, true, false, cond}
use mathlib.Core.List.{List, [], ◌∷◌, ◌++◌}
use mathlib.Core.Logic.{inl, inr}
use Prim.Native.Nat.{ℕ, zero, suc, ◌+◌, ◌-◌, ◌≤◌, ◌<◌}
use native.Mathlib.Nat.{le_refl, zero-add}
use native.Mathlib.Omega.{arith}
use borrow.Author.Tests.{le-leb, lt-leb, ltb-false}
use lib.Dec.{leb, ltb}
use lib.ListN.{length, get_or, length-map}
use Rattle.model.specs.Points.{Point, Segment, segments}
use Rattle.model.specs.Read.{last_from, segment_read, last_area, outside}
use Rattle.model.specs.Inner.{between, origin, point_at, segment_at, areas_of, Inside, Taken}
use Rattle.exact.proofs.Tests.{compare, or_left, or_right}
use Rattle.model.proofs.Walk.{Chain, end, link, stop, stop_index, stop_index_is, last_is_stop}
use Rattle.model.proofs.Walk.{stop_inside, Spreads, across}

abbrev pub stop_in : List Point → ℕ → Segment
stop_in [] x = between origin origin
stop_in (p ∷ []) x = between p p
stop_in (p ∷ q ∷ ps) x = stop p q ps x

-- the last area, by its index
pub last_area_at : (p : Point) (ps : List Point) → last_area p ps ≡ get_or (areas_of (p ∷ ps)) (length ps) 0
last_area_at p [] = refl
last_area_at p (q ∷ ps) = last_area_at q ps

-- a segment fewer than points
pub segments_length : (ps : List Point) → length (segments ps) ≡ length ps - 1
unfolding segments
segments_length [] = refl
segments_length (p ∷ []) = refl
segments_length (p ∷ q ∷ ps) = ap suc (segments_length (q ∷ ps)) ∙ omega arith

-- the index of the segment read is that of a segment
last_below : (x last i m : ℕ) (ss : List Segment) → last < m → i + length ss ≤ m → last_from x last i ss < m
unfolding last_from
last_below x last i m [] l h = l
last_below x last i m (s ∷ ss) l h = elim (compare s.left.area x) [
  | inl (k, e) ↦ rw (e, last_from) (last_below x i (suc i) m ss (omega arith) (omega arith))
  | inr (k, e) ↦ rw (e, last_from) (last_below x last (suc i) m ss l (omega arith))
]

pub read_inner : (ps : List Point) (x : ℕ) → 2 ≤ length ps → suc (segment_read ps x) < length ps
unfolding segment_read
read_inner ps x h =
    let n = segments_length ps in
    let below = last_below x 0 0 (length ps - 1) (segments ps) (omega arith) (omega arith) in
    omega arith

-- a point, and two neighbouring points, by their index
pub point_at_append : (before after : List Point) (p : Point) → point_at (before ++ p ∷ after) (length before) ≡ p
point_at_append [] after p = refl
point_at_append (b ∷ before) after p = point_at_append before after p

pub segment_at_append : (before after : List Point) (p q : Point) →
    segment_at (before ++ p ∷ q ∷ after) (length before) ≡ between p q
segment_at_append [] after p q = refl
segment_at_append (b ∷ before) after p q = segment_at_append before after p q

-- row 7 passed
first_≤_of_row_7 : (p : Point) (ps : List Point) (x : ℕ) → outside (p ∷ ps) x ≡ false → p.area ≤ x
unfolding outside
first_≤_of_row_7 p ps x e = ltb-false x p.area (or_left _ (ltb (last_area p ps) x) e)

≤_last_of_row_7 : (p : Point) (ps : List Point) (x : ℕ) → outside (p ∷ ps) x ≡ false → x ≤ last_area p ps
unfolding outside
≤_last_of_row_7 p ps x e = ltb-false (last_area p ps) x (or_right (ltb x p.area) _ e)

cond_same : (b : Bool) (n : ℕ) → cond b n n ≡ n
cond_same true n = refl
cond_same false n = refl

taken_later : {a : ℕ} {areas : List ℕ} {k x : ℕ} → Taken (a ∷ areas) (suc k) x → Taken areas k x
taken_later t =
    record {
      reached = record { inner = (let n = t.reached.inner in omega arith); low = t.reached.low };
      high = elim t.high [ inl h ↦ inl h | inr e ↦ inr (omega arith) ];
    }

pub data Chained (G : Segment → Type 0) : List Point → Type 0 where
  chained : {p q : Point} {ps : List Point} → Chain G p (q ∷ ps) → Chained G (p ∷ q ∷ ps)

module _ (G : Segment → Type 0) (ordered : (s : Segment) → G s → s.left.area < s.right.area) where
  chain_at : {p : Point} {ps : List Point} → Chain G p ps → (i : ℕ) → i < length ps → G (segment_at (p ∷ ps) i)
  chain_at end i h = absurd (omega arith)
  chain_at (link g c) zero h = g
  chain_at (link g c) (suc i) h = chain_at c i (omega arith)

  chain_least : {p : Point} {ps : List Point} → Chain G p ps → (i : ℕ) → i ≤ length ps → p.area ≤ get_or (areas_of (p ∷ ps)) i 0
  chain_least c zero h = le_refl _
  chain_least end (suc i) h = absurd (omega arith)
  chain_least (link g c) (suc i) h = omega (arith, ordered _ g, chain_least c i (omega arith))

  index-in-chain : {p q : Point} {ps : List Point} → Chain G p (q ∷ ps) → (k x : ℕ) → Taken (areas_of (p ∷ q ∷ ps)) k x →
      stop_index q ps x ≡ k
  index-in-chain (link g end) zero x t = refl
  index-in-chain (link g end) (suc k) x t = absurd (let n = t.reached.inner in omega arith)
  index-in-chain (link {q = q} g (link g' c)) zero x t =
      elim t.high [ inl h ↦ rw (lt-leb q.area x h) | inr e ↦ absurd (omega arith) ]
  index-in-chain (link {q = q} g (link {ps = ps} g' c)) (suc k) x t =
      let r = t.reached in
      let least = chain_least (link g' c) k (omega (arith, length-map ps (λ p. p.area))) in
      rw (le-leb q.area x (omega arith)) (ap suc (index-in-chain (link g' c) k x (taken_later t)))

  pub chained_at : {ps : List Point} → Chained G ps → (i : ℕ) → suc i < length ps → G (segment_at ps i)
  chained_at (chained c) i h = chain_at c i (omega arith)

  read_is_stop : {p q : Point} {ps : List Point} → Chain G p (q ∷ ps) → (x : ℕ) →
      segment_read (p ∷ q ∷ ps) x ≡ stop_index q ps x
  unfolding segment_read last_from segments
  read_is_stop {p} {q} {ps} c x = rw (last_from, cond_same (leb p.area x) 0) (last_is_stop G ordered x 0 c ∙ zero-add _)

  pub index_is : {ps : List Point} → Chained G ps → (k x : ℕ) → Taken (areas_of ps) k x → segment_read ps x ≡ k
  index_is (chained c) k x t = read_is_stop c x ∙ index-in-chain c k x t

  pub read_stops : {ps : List Point} → Chained G ps → (x : ℕ) → segment_at ps (segment_read ps x) ≡ stop_in ps x
  read_stops (chained {p = p} {q = q} {ps = ps} c) x = rw (read_is_stop c x) (stop_index_is p q ps x)

  pub stop_in_inside : {ps : List Point} → Chained G ps → (x : ℕ) → outside ps x ≡ false → Inside G (stop_in ps x) x
  stop_in_inside (chained {p = p} {q = q} {ps = ps} c) x e =
      stop_inside G ordered x c (first_≤_of_row_7 p (q ∷ ps) x e) (≤_last_of_row_7 p (q ∷ ps) x e)

  pub across_chained : {R : Segment → ℕ → Segment → ℕ → Type 0} → Spreads G R → {ps : List Point} → Chained G ps → (x y : ℕ) →
      outside ps x ≡ false → outside ps y ≡ false → x ≤ y → R (stop_in ps x) x (stop_in ps y) y
  across_chained k (chained {p = p} {q = q} {ps = ps} c) x y kx ky h =
      across G ordered k x y c (first_≤_of_row_7 p (q ∷ ps) x kx) h (≤_last_of_row_7 p (q ∷ ps) y ky)
