-- One induction over the points of a curve: what holds inside each segment and joins at the points holds between any two areas.
--   Chain G p ps     p, then the points ps; each neighbouring pair is a segment with G
--   stop p q ps x    where a walk from the left stops at x; on a chain that is the segment read, and x is inside it
--   Spreads G R      R between areas holds inside a segment and where two segments meet, and is transitive
--   across           so R holds between any two areas of a chain
--   good_ordered     the areas of a good segment increase
-- Assumes nothing.
use mathlib.Core.Path.{◌≡◌, refl, sym, ◌∙◌}
use mathlib.Core.Bool.{cond}
use mathlib.Core.List.{List, [], ◌∷◌}
use mathlib.Core.Logic.{inl, inr}
use Prim.Native.Nat.{ℕ, suc, ◌+◌, ◌≤◌, ◌<◌}
use native.Mathlib.Nat.{add-zero, le_refl, le_trans, le_of_lt}
use native.Mathlib.Omega.{arith}
use lib.Dec.{leb}
use borrow.Author.Tests.{lt-leb, le-leb}
use Rattle.exact.proofs.Tests.{compare}
use Rattle.model.specs.Points.{Point, Segment, segments, Rule}
use Rattle.model.specs.Read.{last_from, last_area}
use Rattle.model.specs.Inner.{between, segment_at, Good, Inside}

pub good_ordered : {rule : Rule} (s : Segment) → Good rule s → s.left.area < s.right.area
good_ordered s g = g.ends.ordered

abbrev pub stop : Point → Point → List Point → ℕ → Segment
stop p q [] x = between p q
stop p q (r ∷ ps) x = cond (leb q.area x) (stop q r ps x) (between p q)

-- and its index, from the second point on
abbrev pub stop_index : Point → List Point → ℕ → ℕ
stop_index q [] x = 0
stop_index q (r ∷ ps) x = cond (leb q.area x) (suc (stop_index r ps x)) 0

pub stop_index_is : (p q : Point) (ps : List Point) (x : ℕ) → segment_at (p ∷ q ∷ ps) (stop_index q ps x) ≡ stop p q ps x
stop_index_is p q [] x = refl
stop_index_is p q (r ∷ ps) x = elim (compare q.area x) [
  | inl (h, e) ↦ rw e (stop_index_is q r ps x)
  | inr (h, e) ↦ rw e
]

pub record Spreads (G : Segment → Type 0) (R : Segment → ℕ → Segment → ℕ → Type 0) : Type 0 where
  pub inside : {s : Segment} {x y : ℕ} → Inside G s x → Inside G s y → x ≤ y → R s x s y
  pub join : {p q r : Point} → Inside G (between p q) q.area → Inside G (between q r) q.area →
      R (between p q) q.area (between q r) q.area
  pub trans : {s s' s'' : Segment} {x y z : ℕ} → Inside G s x → Inside G s' y → Inside G s'' z →
      R s x s' y → R s' y s'' z → R s x s'' z

module _ (G : Segment → Type 0) where
  pub data Chain : Point → List Point → Type 0 where
    end : {p : Point} → Chain p []
    link : {p q : Point} {ps : List Point} → G (between p q) → Chain q ps → Chain p (q ∷ ps)

  module _ (ordered : (s : Segment) → G s → s.left.area < s.right.area) where
    pub chain_ordered : {p : Point} {ps : List Point} → Chain p ps → p.area ≤ last_area p ps
    chain_ordered (end {p = p}) = le_refl p.area
    chain_ordered (link {p = p} {q = q} g c) = omega (arith, ordered (between p q) g, chain_ordered c)

    -- areas increase, so a later segment is not read
    last_before : (x last i : ℕ) {p : Point} {ps : List Point} → Chain p ps → x < p.area →
        last_from x last i (segments (p ∷ ps)) ≡ last
    unfolding last_from segments
    last_before x last i end h = refl
    last_before x last i (link {p = p} {q = q} g c) h =
        rw (lt-leb p.area x h, last_from) (last_before x last (suc i) c (omega (arith, ordered (between p q) g)))

    pub last_is_stop : (x i : ℕ) {p q : Point} {ps : List Point} → Chain p (q ∷ ps) →
        last_from x i (suc i) (segments (q ∷ ps)) ≡ i + stop_index q ps x
    unfolding last_from segments
    last_is_stop x i (link g end) = sym (add-zero i)
    last_is_stop x i (link {p = p} {q = q} g (link {q = r} {ps = ps} g' c)) =
        elim (compare q.area x) [
          | inl (h, e) ↦ rw (e, last_from) (last_is_stop x (suc i) (link g' c) ∙ omega arith)
          | inr (h, e) ↦
              rw (e, last_from) (last_before x i (suc (suc i)) c (omega (arith, ordered (between q r) g')) ∙ omega arith)
        ]

    pub stop_inside : (x : ℕ) {p q : Point} {ps : List Point} → Chain p (q ∷ ps) →
        p.area ≤ x → x ≤ last_area q ps → Inside G (stop p q ps x) x
    stop_inside x (link g end) low high = record { good = g; low = low; high = high }
    stop_inside x (link {q = q} g (link g' c)) low high =
        let later = stop_inside x (link g' c) in
        elim (compare q.area x) [
          | inl (h, e) ↦ rw e (later h high)
          | inr (h, e) ↦ rw e (record { good = g; low = low; high = le_of_lt h })
        ]

    -- the ends of a segment are inside it
    inside_left : {p q : Point} → G (between p q) → Inside G (between p q) p.area
    inside_left {p} {q} g = record { good = g; low = le_refl p.area; high = le_of_lt (ordered (between p q) g) }

    inside_right : {p q : Point} → G (between p q) → Inside G (between p q) q.area
    inside_right {p} {q} g = record { good = g; low = le_of_lt (ordered (between p q) g); high = le_refl q.area }

    module _ {R : Segment → ℕ → Segment → ℕ → Type 0} (k : Spreads G R) where
      -- from x in the first segment
      across_first : {x : ℕ} (y : ℕ) {p q : Point} {ps : List Point} → Chain p (q ∷ ps) →
          Inside G (between p q) x → x ≤ y → y ≤ last_area q ps → R (between p q) x (stop p q ps y) y
      across_first y (link g end) i order high =
          k.inside i (record { good = g; low = le_trans i.low order; high = high }) order
      across_first y (link {q = q} g (link g' c)) i order high =
          let later = across_first y (link g' c) in
          let m = inside_right g in
          let m' = inside_left g' in
          elim (compare q.area y) [
            | inl (h, e) ↦
                let j = stop_inside y (link g' c) h high in
                rw e (k.trans i m j (k.inside i m i.high) (k.trans m m' j (k.join m m') (later m' h high)))
            | inr (h, e) ↦
                rw e (k.inside i (record { good = g; low = le_trans i.low order; high = le_of_lt h }) order)
          ]

      pub across : (x y : ℕ) {p q : Point} {ps : List Point} → Chain p (q ∷ ps) →
          p.area ≤ x → x ≤ y → y ≤ last_area q ps → R (stop p q ps x) x (stop p q ps y) y
      across x y (link g end) low order high =
          across_first y (link g end) (record { good = g; low = low; high = le_trans order high }) order high
      across x y (link {q = q} g (link g' c)) low order high =
          let later = across x y (link g' c) in
          elim (compare q.area x) [
            | inl (h, e) ↦ rw (e, le-leb q.area y (le_trans h order)) (later h order high)
            | inr (h, e) ↦
                rw e (across_first y (link g (link g' c)) (record { good = g; low = low; high = le_of_lt h }) order high)
          ]
