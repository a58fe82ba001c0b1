-- Floor division, and the floor of a fraction.
--   Quotient n d q      q·d ≤ n < (q + 1)·d: q is n / d rounded down, and nothing else is (`quotient_unique`)
--   floor_div_quotient   `floor_div` gives the quotient, and nothing else does (`floor_div_unique`)
--   floor_div_nested     ⌊(x + ⌊y / w⌋) / m⌋ = ⌊(x w + y) / (w m)⌋: one rounding by two divisions; floor_div_above, ⌊z / d⌋ is
--                       ⌊(l d + z) / d⌋ less l
--   floor_greatest      the floor is the greatest whole number not above x, so the next one is (`floor_next`); floor_keeps_order
-- Assumes nothing.
use mathlib.Core.Path.{◌≡◌, sym, ◌∙◌, ap, subst₂}
use mathlib.Core.List.{[], ◌∷◌}
use Prim.Native.Nat.{ℕ, ◌*◌, ◌/◌, ◌<◌}
use native.Mathlib.Nat.{div-mul-le_self, div-one, lt-mul-div-succ, mul_comm, mul-one, mul-pos}
use lib.Dec.{lit<}
use lib.IntN.{ℤ, pos, negsuc, nat_abs, ◌+ℤ◌, ◌-ℤ◌, ◌*ℤ◌}
use lib.Signed.{◌≤ℤ◌, ◌<ℤ◌}
use Rattle.exact.specs.Fraction.{Fraction, Proper, whole, ◌≤ℚ◌, ◌<ℚ◌}
use Rattle.exact.specs.Rounding.{floor_div, floor, FloorIsGreatest}
use Rattle.exact.proofs.Integer.{*_one}
use Rattle.exact.proofs.Ring.{ring, terms}
use Rattle.exact.proofs.Order as Z
use Rattle.exact.proofs.Order.{signs}
use Rattle.exact.proofs.Fractions as Q
use Rattle.exact.proofs.Fractions.{propers}
use Rattle.exact.proofs.Signed.{complement, complement_pos}

pub record Quotient (n : ℤ) (d : ℕ) (q : ℤ) : Type 0 where
  pub low : (q *ℤ pos d) ≤ℤ n
  pub high : n <ℤ ((q +ℤ pos 1) *ℤ pos d)

-- z with z·d ≤ n is at most the quotient
quotient_greatest : {n : ℤ} {d : ℕ} {q : ℤ} (z : ℤ) → Quotient n d q → (z *ℤ pos d) ≤ℤ n → z ≤ℤ q
quotient_greatest {d = d} z k m = Z.≤_of_<_next (Z.<_cancel (Z.nonneg_pos d) (Z.≤_<_trans m k.high))

quotient_unique : {n : ℤ} {d : ℕ} {q r : ℤ} → Quotient n d q → Quotient n d r → q ≡ r
quotient_unique {q = q} {r = r} k m = Z.≤_antisym (quotient_greatest q m k.low) (quotient_greatest r k m.low)

quotient_pos : (n : ℕ) {d : ℕ} → 0 < d → Quotient (pos n) d (pos (n / d))
quotient_pos n {d} h =
    record { low = Z.pos_≤_of_≤ (div-mul-le_self n d); high = Z.pos_<_of_< (rw mul_comm (lt-mul-div-succ n h)) }

-- −1 − n has the quotient −1 − q
quotient_complement : {n q : ℤ} {d : ℕ} → Quotient n d q → Quotient (complement n) d (complement q)
quotient_complement {n} {q} {d} k = record {
  low = Z.≤_by _ below (Z.nonneg_difference (Z.next_of_< k.high));
  high = Z.<_by _ above (Z.positive_+ (Z.positive_lit tt) (Z.nonneg_difference k.low));
}
  where
    below : complement n -ℤ complement q *ℤ pos d ≡ (q +ℤ pos 1) *ℤ pos d -ℤ (n +ℤ pos 1)
    below = ring (n ∷ q ∷ pos d ∷ []) (search terms depth 20 fits 9999) tt

    above : (complement q +ℤ pos 1) *ℤ pos d -ℤ complement n ≡ pos 1 +ℤ (n -ℤ q *ℤ pos d)
    above = ring (n ∷ q ∷ pos d ∷ []) (search terms depth 20 fits 9999) tt

pub floor_div_quotient : (n : ℤ) {d : ℕ} → 0 < d → Quotient n d (floor_div n d)
unfolding floor_div
floor_div_quotient (pos n) h = quotient_pos n h
floor_div_quotient (negsuc n) {d} h =
    subst₂ (λ x y. Quotient x d y) (complement_pos n) (complement_pos (n / d)) (quotient_complement (quotient_pos n h))

pub floor_div_unique : {n : ℤ} {d : ℕ} {q : ℤ} → 0 < d → Quotient n d q → floor_div n d ≡ q
floor_div_unique {n} h k = quotient_unique (floor_div_quotient n h) k

-- what two divisions leave over, below and above, as a sum of what each leaves: e is y by W, and q is x + e by M
module _ (x y W M e q : ℤ) where
  below_nested : x *ℤ W +ℤ y -ℤ q *ℤ (W *ℤ M) ≡ (y -ℤ e *ℤ W) +ℤ (x +ℤ e -ℤ q *ℤ M) *ℤ W
  below_nested = ring (x ∷ y ∷ W ∷ M ∷ e ∷ q ∷ []) (search terms depth 20 fits 9999) tt

  above_nested : (q +ℤ pos 1) *ℤ (W *ℤ M) -ℤ (x *ℤ W +ℤ y) ≡
      ((e +ℤ pos 1) *ℤ W -ℤ y) +ℤ ((q +ℤ pos 1) *ℤ M -ℤ (x +ℤ e +ℤ pos 1)) *ℤ W
  above_nested = ring (x ∷ y ∷ W ∷ M ∷ e ∷ q ∷ []) (search terms depth 20 fits 9999) tt

quotient_nested : (x : ℤ) {y e q : ℤ} {w m : ℕ} →
    Quotient y w e →
    Quotient (x +ℤ e) m q →
    Quotient (x *ℤ pos w +ℤ y) (w * m) q
quotient_nested x {y} {e} {q} {w} {m} inner outer =
    let next = Z.next_of_< outer.high in
    record {
      low = Z.≤_by _ (below_nested x y (pos w) (pos m) e q) (search (signs, inner.low, outer.low));
      high = Z.<_by _ (above_nested x y (pos w) (pos m) e q) (search (signs, inner.high, next));
    }

pub floor_div_nested : (x y : ℤ) {w m : ℕ} →
    0 < w →
    0 < m →
    floor_div (x +ℤ floor_div y w) m ≡ floor_div (x *ℤ pos w +ℤ y) (w * m)
floor_div_nested x y hw hm =
    sym (floor_div_unique (mul-pos hw hm) (quotient_nested x (floor_div_quotient y hw)
    (floor_div_quotient (x +ℤ floor_div y _) hm)))

floor_by_1 : (z : ℤ) → floor_div z 1 ≡ z
unfolding floor_div
floor_by_1 (pos n) = ap pos (div-one n)
floor_by_1 (negsuc n) = ap negsuc (div-one n)

pub floor_div_above : (l z : ℤ) {d : ℕ} → 0 < d → floor_div z d ≡ floor_div (l *ℤ pos d +ℤ z) d -ℤ l
floor_div_above l z {d} h =
    let e : l +ℤ floor_div z d ≡ floor_div (l *ℤ pos d +ℤ z) d =
    sym (floor_by_1 _) ∙ floor_div_nested l z h (lit< tt) ∙ ap (λ k. floor_div (l *ℤ pos d +ℤ z) k) (mul-one d) in
    rw (← e) (ring (l ∷ floor_div z d ∷ []) (search terms depth 20 fits 9999) tt)

-- ---- the floor of a fraction

module _ (x : Fraction) (px : Proper x) where
  den_natural : pos (nat_abs x.den) ≡ x.den
  den_natural = sym (Z.natural_of_nonneg (Z.≤_of_< px.above_0))

  floor_quotient : Quotient x.num (nat_abs x.den) (floor x)
  unfolding floor
  floor_quotient = floor_div_quotient x.num (Z.<_of_pos_< (rw den_natural px.above_0))

  pub floor_next : x <ℚ whole (floor x +ℤ pos 1)
  unfolding whole
  floor_next = record { cross = rw (*_one x.num) (rw den_natural at floor_quotient.high) }

pub floor_greatest : FloorIsGreatest
unfolding whole
floor_greatest x px =
    let q = floor_quotient x px in
    record {
      not_above = record { cross = rw (*_one x.num) (rw (den_natural x px) at q.low) };
      greatest = λ z h. quotient_greatest z q (rw (den_natural x px) (rw (*_one x.num) at h.cross));
    }

pub floor_keeps_order : (x y : Fraction) → Proper x → Proper y → x ≤ℚ y → floor x ≤ℤ floor y
floor_keeps_order x y px py h =
    (floor_greatest y py).greatest (floor x) (Q.≤_trans (search propers) px py (floor_greatest x px).not_above h)
