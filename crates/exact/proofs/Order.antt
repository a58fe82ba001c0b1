-- The order of ℤ (`lib.Signed`).
--   natural_of_nonneg         what is not negative is natural; difference_of_≤, so is m − n where n ≤ m
--   ≤_by c e h, <_by c e h    the certificate: b − a is c, which is not negative (above 0)
--   nonneg-.., positive-..    what is not negative, above 0; `search signs` goes by these
--   next_of_<, <_of_next      a < b is a + 1 ≤ b
--   ≤-+, ≤-*, ..-cancel       sums, products, and a factor taken away
--   ≤_negated, le_z_negated, lt_z_negated    with both signs changed the order is the other way round
-- Assumes nothing.
use mathlib.Core.Path.{◌≡◌, sym, ap, subst}
use mathlib.Core.List.{[], ◌∷◌}
use mathlib.Core.Logic.{◌⊎◌, inl, inr}
use Prim.Native.Nat.{ℕ, zero, suc, ◌+◌, ◌-◌, ◌*◌, ◌≤◌, ◌<◌, zero-le, suc-le-suc}
use native.Mathlib.Omega.{arith}
use borrow.Author.Tests.{le-ltb}
use lib.Dec.{T, ltb, leb→le, le→leb, ltb→lt, lt→ltb}
use lib.IntN.{ℤ, pos, negsuc, neg_ℤ, nat_abs, suc_ℤ, ◌+ℤ◌, ◌-ℤ◌, ◌*ℤ◌, +ℤ_one}
use lib.Signed.{◌≤ℤ◌, ◌<ℤ◌, le_z, lt_z, lt_z_yes, <ℤ-≤ℤ_trans, clash_ℤ, ≤ℤ_refl, yes_non_neg, pos-nat_abs}
use Rattle.exact.proofs.Tests.{true_or_false, same_test, ≤_of_lt_z_false}
use Rattle.exact.proofs.Ring.{ring, terms}

-- ---- ≤ between natural numbers

pub pos_≤_of_≤ : {m n : ℕ} → m ≤ n → pos m ≤ℤ pos n
pos_≤_of_≤ {m} {n} h = record { le = le→leb m n h }

pub pos_<_of_< : {m n : ℕ} → m < n → pos m <ℤ pos n
pos_<_of_< {m} {n} h = record { lt = lt→ltb m n h }

pub ≤_of_pos_≤ : {m n : ℕ} → pos m ≤ℤ pos n → m ≤ n
≤_of_pos_≤ {m} {n} h = leb→le m n h.le

pub <_of_pos_< : {m n : ℕ} → pos m <ℤ pos n → m < n
<_of_pos_< {m} {n} h = ltb→lt m n h.lt

pub pos_injective : {m n : ℕ} → pos m ≡ pos n → m ≡ n
pos_injective e = ap nat_abs e

pub nonneg_pos : (n : ℕ) → pos 0 ≤ℤ pos n
nonneg_pos n = pos_≤_of_≤ zero-le

pub natural_of_nonneg : {z : ℤ} → pos 0 ≤ℤ z → z ≡ pos (nat_abs z)
natural_of_nonneg {z} h = sym (pos-nat_abs z (yes_non_neg h))

pub pos_of_nonneg : {z : ℤ} → pos 0 ≤ℤ z → (n : ℕ) × (z ≡ pos n)
pos_of_nonneg {z} h = (nat_abs z, natural_of_nonneg h)

pub difference_of_≤ : {m n : ℕ} → n ≤ m → pos m -ℤ pos n ≡ pos (m - n)
difference_of_≤ {m} {n = zero} h = ap pos (omega arith)
difference_of_≤ {m} {n = suc n} h = rw (le-ltb m (suc n) h)

-- ---- a ≤ b says that b − a is not negative

≤_sum : (a : ℤ) (n : ℕ) → a ≤ℤ (a +ℤ pos n)
≤_sum (pos a) n = pos_≤_of_≤ (omega arith)
≤_sum (negsuc a) n = elim (true_or_false (ltb n (suc a))) [
  | inl e ↦ rw e (record { le = le→leb (suc a - suc n) a (omega arith) })
  | inr e ↦ rw e (record { le = tt })
]

pub ≤_by : {a b : ℤ} (c : ℤ) → b -ℤ a ≡ c → pos 0 ≤ℤ c → a ≤ℤ b
≤_by {a} {b} c e h =
    let n = pos_of_nonneg h in
    subst (λ x. a ≤ℤ x) (rw (← n.1, ← e) (ring (a ∷ b ∷ []) (search terms depth 20 fits 9999) tt)) (≤_sum a n.0)

le_z_difference : (a b : ℤ) → T (le_z a b) → pos 0 ≤ℤ (b -ℤ a)
le_z_difference (pos a) (pos b) t = rw (difference_of_≤ (leb→le a b t)) (nonneg_pos (b - a))
le_z_difference (pos a) (negsuc b) t = absurd t
le_z_difference (negsuc a) (pos b) t = nonneg_pos (b + suc a)
le_z_difference (negsuc a) (negsuc b) t = rw (le-ltb (suc a) (suc b) (suc-le-suc (leb→le b a t))) (nonneg_pos (suc a - suc b))

pub nonneg_difference : {a b : ℤ} → a ≤ℤ b → pos 0 ≤ℤ (b -ℤ a)
nonneg_difference {a} {b} h = le_z_difference a b h.le

pub nonneg_+ : {a b : ℤ} → pos 0 ≤ℤ a → pos 0 ≤ℤ b → pos 0 ≤ℤ (a +ℤ b)
nonneg_+ h k =
    let m = pos_of_nonneg h in
    let n = pos_of_nonneg k in
    rw (m.1, n.1) (nonneg_pos (m.0 + n.0))

pub nonneg_* : {a b : ℤ} → pos 0 ≤ℤ a → pos 0 ≤ℤ b → pos 0 ≤ℤ (a *ℤ b)
nonneg_* h k =
    let m = pos_of_nonneg h in
    let n = pos_of_nonneg k in
    rw (m.1, n.1) (nonneg_pos (m.0 * n.0))

pub nonneg_square : (a : ℤ) → pos 0 ≤ℤ (a *ℤ a)
nonneg_square (pos n) = nonneg_pos (n * n)
nonneg_square (negsuc n) = nonneg_pos (suc n * suc n)

-- ---- ≤ is an order

pub ≤_of_≡ : {a b : ℤ} → a ≡ b → a ≤ℤ b
≤_of_≡ {a} e = subst (λ x. a ≤ℤ x) e (≤ℤ_refl a)

pub ≤_trans : {a b c : ℤ} → a ≤ℤ b → b ≤ℤ c → a ≤ℤ c
≤_trans {a} {b} {c} h k =
    ≤_by ((c -ℤ b) +ℤ (b -ℤ a))
    (ring (a ∷ b ∷ c ∷ []) (search terms depth 20 fits 9999) tt)
    (nonneg_+ (nonneg_difference k) (nonneg_difference h))

pub ≤_antisym : {a b : ℤ} → a ≤ℤ b → b ≤ℤ a → a ≡ b
≤_antisym {a = pos a} {b = pos b} h k = ap pos (omega (arith, ≤_of_pos_≤ h, ≤_of_pos_≤ k))
≤_antisym {a = pos a} {b = negsuc b} h k = absurd h.le
≤_antisym {a = negsuc a} {b = pos b} h k = absurd k.le
≤_antisym {a = negsuc a} {b = negsuc b} h k = ap negsuc (omega (arith, leb→le b a h.le, leb→le a b k.le))

pub ≤_or_< : (a b : ℤ) → (a ≤ℤ b) ⊎ (b <ℤ a)
≤_or_< a b = elim (true_or_false (lt_z b a)) [ inl e ↦ inr (lt_z_yes (rw e tt)) | inr e ↦ inl (≤_of_lt_z_false e) ]

-- ---- < is ≤ after one more

next_≤ : (a b : ℤ) → T (lt_z a b) → T (le_z (suc_ℤ a) b)
next_≤ (pos a) (pos b) t = t
next_≤ (pos a) (negsuc b) t = t
next_≤ (negsuc zero) (pos b) t = le→leb 0 b zero-le
next_≤ (negsuc (suc a)) (pos b) t = tt
next_≤ (negsuc zero) (negsuc b) t = absurd (let h = ltb→lt b 0 t in omega arith)
next_≤ (negsuc (suc a)) (negsuc b) t = le→leb b a (let h = ltb→lt b (suc a) t in omega arith)

pub next_of_< : {a b : ℤ} → a <ℤ b → (a +ℤ pos 1) ≤ℤ b
next_of_< {a} {b} h = rw (+ℤ_one a) (record { le = next_≤ a b h.lt })

pub ≤_of_< : {a b : ℤ} → a <ℤ b → a ≤ℤ b
≤_of_< {a} {b} h = ≤_trans (≤_sum a 1) (next_of_< h)

pub <_of_next : {a b : ℤ} → (a +ℤ pos 1) ≤ℤ b → a <ℤ b
<_of_next {a} {b} h = elim (≤_or_< b a) [
  | inl k ↦ absurd (subst (λ x. pos 0 ≤ℤ x) minus_one (nonneg_difference (≤_trans h k))).le
  | inr k ↦ k
]
  where
    minus_one : a -ℤ (a +ℤ pos 1) ≡ neg_ℤ (pos 1)
    minus_one = ring (a ∷ []) (search terms depth 20 fits 9999) tt

-- a whole number below b + 1 is at most b
pub ≤_of_<_next : {a b : ℤ} → a <ℤ (b +ℤ pos 1) → a ≤ℤ b
≤_of_<_next {a} {b} h =
    ≤_by (b +ℤ pos 1 -ℤ (a +ℤ pos 1))
    (ring (a ∷ b ∷ []) (search terms depth 20 fits 9999) tt)
    (nonneg_difference (next_of_< h))

pub <_by : {a b : ℤ} (c : ℤ) → b -ℤ a ≡ c → pos 0 <ℤ c → a <ℤ b
<_by {a} {b} c e h =
    <_of_next
    (≤_by (c -ℤ pos 1)
    (rw (← e) (ring (a ∷ b ∷ []) (search terms depth 20 fits 9999) tt))
    (nonneg_difference (next_of_< h)))

pub positive_difference : {a b : ℤ} → a <ℤ b → pos 0 <ℤ (b -ℤ a)
positive_difference {a} {b} h =
    <_of_next
    (≤_by (b -ℤ (a +ℤ pos 1))
    (ring (a ∷ b ∷ []) (search terms depth 20 fits 9999) tt)
    (nonneg_difference (next_of_< h)))

-- ---- above 0

pub positive_lit : {n : ℕ} → T (ltb 0 n) → pos 0 <ℤ pos n
positive_lit t = record { lt = t }

pub positive_+ : {a b : ℤ} → pos 0 <ℤ a → pos 0 ≤ℤ b → pos 0 <ℤ (a +ℤ b)
positive_+ {a} {b} h k = <ℤ-≤ℤ_trans h (≤_by b (ring (a ∷ b ∷ []) (search terms depth 20 fits 9999) tt) k)

pub positive_+' : {a b : ℤ} → pos 0 ≤ℤ a → pos 0 <ℤ b → pos 0 <ℤ (a +ℤ b)
positive_+' {a} {b} h k = <ℤ-≤ℤ_trans k (≤_by a (ring (a ∷ b ∷ []) (search terms depth 20 fits 9999) tt) h)

pub positive_* : {a b : ℤ} → pos 0 <ℤ a → pos 0 <ℤ b → pos 0 <ℤ (a *ℤ b)
positive_* {a} {b} h k =
    <ℤ-≤ℤ_trans k
    (≤_by ((a -ℤ pos 1) *ℤ b)
    (ring (a ∷ b ∷ []) (search terms depth 20 fits 9999) tt)
    (nonneg_* (nonneg_difference (next_of_< h)) (≤_of_< k)))

-- what `search` goes by for a sign; a literal's own sign computes
pub ruleset nonnegs = (nonneg_pos, nonneg_+, nonneg_*, nonneg_square, ≤_of_<, nonneg_difference)

pub ruleset signs = (nonnegs, positive_lit, positive_*, positive_+, positive_+', positive_difference, tt)

-- ---- sums, products, and cancelling a factor

pub ≤_<_trans : {a b c : ℤ} → a ≤ℤ b → b <ℤ c → a <ℤ c
≤_<_trans {a} {b} {c} h k =
    <_by ((c -ℤ b) +ℤ (b -ℤ a)) (ring (a ∷ b ∷ c ∷ []) (search terms depth 20 fits 9999) tt) (search signs)

pub ≤-+ : {a b c d : ℤ} → a ≤ℤ b → c ≤ℤ d → (a +ℤ c) ≤ℤ (b +ℤ d)
≤-+ {a} {b} {c} {d} h k =
    ≤_by ((b -ℤ a) +ℤ (d -ℤ c)) (ring (a ∷ b ∷ c ∷ d ∷ []) (search terms depth 20 fits 9999) tt) (search signs)

pub ≤-* : {a b k : ℤ} → pos 0 ≤ℤ k → a ≤ℤ b → (a *ℤ k) ≤ℤ (b *ℤ k)
≤-* {a} {b} {k} hk h = ≤_by ((b -ℤ a) *ℤ k) (ring (a ∷ b ∷ k ∷ []) (search terms depth 20 fits 9999) tt) (search signs)

pub <-* : {a b k : ℤ} → pos 0 <ℤ k → a <ℤ b → (a *ℤ k) <ℤ (b *ℤ k)
<-* {a} {b} {k} hk h = <_by ((b -ℤ a) *ℤ k) (ring (a ∷ b ∷ k ∷ []) (search terms depth 20 fits 9999) tt) (search signs)

pub ≤_cancel : {a b k : ℤ} → pos 0 <ℤ k → (a *ℤ k) ≤ℤ (b *ℤ k) → a ≤ℤ b
≤_cancel {a} {b} {k} hk h = elim (≤_or_< a b) [ inl r ↦ r | inr r ↦ clash_ℤ (<-* hk r) h ]

pub <_cancel : {a b k : ℤ} → pos 0 ≤ℤ k → (a *ℤ k) <ℤ (b *ℤ k) → a <ℤ b
<_cancel {a} {b} {k} hk h = elim (≤_or_< b a) [ inl r ↦ clash_ℤ h (≤-* hk r) | inr r ↦ r ]

pub ≡_cancel : {a b k : ℤ} → pos 0 <ℤ k → a *ℤ k ≡ b *ℤ k → a ≡ b
≡_cancel hk e = ≤_antisym (≤_cancel hk (≤_of_≡ e)) (≤_cancel hk (≤_of_≡ (sym e)))

-- ---- signs changed

pub ≤_negated : {a b : ℤ} → a ≤ℤ b → neg_ℤ b ≤ℤ neg_ℤ a
≤_negated {a} {b} h = ≤_by (b -ℤ a) (ring (a ∷ b ∷ []) (search terms depth 20 fits 9999) tt) (nonneg_difference h)

<_negated : {a b : ℤ} → a <ℤ b → neg_ℤ b <ℤ neg_ℤ a
<_negated {a} {b} h = <_by (b -ℤ a) (ring (a ∷ b ∷ []) (search terms depth 20 fits 9999) tt) (positive_difference h)

twice_negated : (a : ℤ) → neg_ℤ (neg_ℤ a) ≡ a
twice_negated a = ring (a ∷ []) (search terms depth 20 fits 9999) tt

module _ (a b : ℤ) where
  pub le_z_negated : le_z (neg_ℤ a) (neg_ℤ b) ≡ le_z b a
  le_z_negated =
      same_test (le_z (neg_ℤ a) (neg_ℤ b)) (le_z b a)
      (λ t. let h : neg_ℤ a ≤ℤ neg_ℤ b = record { le = t } in (rw (twice_negated a, twice_negated b) at (≤_negated h)).le)
      (λ t. let h : b ≤ℤ a = record { le = t } in (≤_negated h).le)

  pub lt_z_negated : lt_z (neg_ℤ a) (neg_ℤ b) ≡ lt_z b a
  lt_z_negated =
      same_test (lt_z (neg_ℤ a) (neg_ℤ b)) (lt_z b a)
      (λ t. let h : neg_ℤ a <ℤ neg_ℤ b = record { lt = t } in (rw (twice_negated a, twice_negated b) at (<_negated h)).lt)
      (λ t. let h : b <ℤ a = record { lt = t } in (<_negated h).lt)
