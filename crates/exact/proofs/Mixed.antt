-- The rounding of a quotient, from what a division left.
--   half_even_strict  what is less than one half off on both sides
--   stays, goes_up    k + r / d is rounded to k, or to k + 1
--   round_sticky      of what two divisions left, the rounding asks of the first only whether it left anything
-- Assumes nothing.
use mathlib.Core.Path.{◌≡◌, sym, ◌∙◌}
use mathlib.Core.List.{List, [], ◌∷◌}
use mathlib.Core.Logic.{inl, inr}
use Prim.Native.Nat.{ℕ, ◌*◌, ◌≤◌, ◌<◌}
use native.Mathlib.Omega.{arith}
use borrow.Author.Tests.{eqb-true, eqb-false}
use lib.Dec.{T, eqb}
use lib.IntN.{ℤ, pos, ◌+ℤ◌, ◌-ℤ◌, ◌*ℤ◌, +ℤ_invr}
use lib.Signed.{◌≤ℤ◌, ◌<ℤ◌, clash_ℤ}
use Rattle.exact.specs.Fraction.{Fraction, ◌over◌, whole, ◌+ℚ◌, ◌-ℚ◌, ◌≈ℚ◌, ◌≤ℚ◌, ◌<ℚ◌}
use Rattle.exact.specs.Rounding.{half, even, HalfEven, Rounding}
use Rattle.exact.specs.Inner.{sticky}
use Rattle.exact.proofs.Tests.{true_or_false}
use Rattle.exact.proofs.Integer.{≡_of_difference}
use Rattle.exact.proofs.Ring.{ring, terms}
use Rattle.exact.proofs.Order as Z
use Rattle.exact.proofs.Order.{signs}
use Rattle.exact.proofs.Field.{field, ratios}
use Rattle.exact.proofs.Fractions as Q
use Rattle.exact.proofs.Fractions.{propers}

-- a number that is less than one half off on one side, and less or even on the other
module _ {x : Fraction} {k : ℤ} where
  pub half_even_low : x -ℚ half ≤ℚ whole k → whole k <ℚ x +ℚ half → (whole k ≈ℚ x -ℚ half → T (even k)) → HalfEven x k
  half_even_low low high tie = record {
    low = low;
    high = Q.≤_of_< high;
    even_at_half = λ at. elim at [ inl e ↦ tie e | inr e ↦ clash_ℤ high.cross (Q.≤_of_≈ (Q.≈_sym e)).cross ];
  }

  pub half_even_high : x -ℚ half <ℚ whole k → whole k ≤ℚ x +ℚ half → (whole k ≈ℚ x +ℚ half → T (even k)) → HalfEven x k
  half_even_high low high tie = record {
    low = Q.≤_of_< low;
    high = high;
    even_at_half = λ at. elim at [ inl e ↦ clash_ℤ low.cross (Q.≤_of_≈ e).cross | inr e ↦ tie e ];
  }

  pub half_even_strict : x -ℚ half <ℚ whole k → whole k <ℚ x +ℚ half → HalfEven x k
  half_even_strict low high = half_even_low (Q.≤_of_< low) high (λ e. clash_ℤ low.cross (Q.≤_of_≈ e).cross)

-- ---- k + r / d

≡_of_≡ : {a b c d : ℤ} → a -ℤ b ≡ c -ℤ d → c ≡ d → a ≡ b
≡_of_≡ {a} {b} {c} {d} e h = ≡_of_difference a b (e ∙ rw h (+ℤ_invr d))

module _ (k : ℤ) {r d : ℕ} (some : 0 < d) (part : r ≤ d) where
  abbrev mixed : Fraction
  mixed = (k *ℤ pos d +ℤ pos r) over pos d

  abbrev variables : List ℤ
  variables = k ∷ pos r ∷ pos d ∷ []

  pub stays : 2 * r ≤ d → (2 * r ≡ d → T (even k)) → HalfEven mixed k
  unfolding ◌over◌ whole ◌+ℚ◌ ◌-ℚ◌
  stays h tie =
      let m = Z.pos_≤_of_≤ h in
      let s = Z.pos_<_of_< some in
      half_even_low
      (record { cross = Z.≤_by (pos d -ℤ pos (2 * r)) (ring variables (search terms depth 20 fits 9999) tt) (search signs) })
      (record {
        cross = Z.<_by (pos d +ℤ pos (2 * r)) (ring variables (search terms depth 20 fits 9999) tt) (search signs);
      })
      (λ e. tie (Z.pos_injective (≡_of_≡ (ring variables (search terms depth 20 fits 9999) tt) (sym e.cross))))

  pub goes_up : d ≤ 2 * r → (2 * r ≡ d → T (even (k +ℤ pos 1))) → HalfEven mixed (k +ℤ pos 1)
  unfolding ◌over◌ whole ◌+ℚ◌ ◌-ℚ◌
  goes_up h tie =
      let m = Z.pos_≤_of_≤ h in
      let p = Z.pos_≤_of_≤ part in
      let s = Z.pos_<_of_< some in
      half_even_high
      (record {
        cross = Z.<_by ((pos d -ℤ pos r) *ℤ pos 2 +ℤ pos d) (ring variables (search terms depth 20 fits 9999) tt) (search signs);
      })
      (record { cross = Z.≤_by (pos (2 * r) -ℤ pos d) (ring variables (search terms depth 20 fits 9999) tt) (search signs) })
      (λ e. tie (Z.pos_injective (≡_of_≡ (ring variables (search terms depth 20 fits 9999) tt) (sym e.cross))))

-- ---- (n + r / c) / 2 m

quarter_≤ : {a b : ℤ} → (a *ℤ pos 4) ≤ℤ (b *ℤ pos 4 +ℤ pos 2) → a ≤ℤ b
quarter_≤ {a} {b} h =
    Z.≤_of_<_next (Z.<_cancel (Z.nonneg_pos 4)
    (Z.≤_<_trans h (Z.<_by (pos 2) (ring (b ∷ []) (search terms depth 20 fits 9999) tt) (Z.positive_lit tt))))

module _ (n : ℤ) (r c m : ℕ) where
  abbrev divided_twice : Fraction
  divided_twice = (n *ℤ pos c +ℤ pos r) over (pos c *ℤ pos (2 * m))

  abbrev stuck : Fraction
  stuck = (pos 2 *ℤ n +ℤ pos (sticky r)) over pos (2 * (2 * m))

module _ (n j : ℤ) (r c m : ℕ) (some : 0 < r) (below : r < c) where
  -- 2 m j is from n + 1 − m to n + m, so j is less than one half off
  sticks : HalfEven ((pos 2 *ℤ n +ℤ pos 1) over pos (2 * (2 * m))) j → HalfEven (divided_twice n r c m) j
  unfolding ◌over◌ whole ◌+ℚ◌ ◌-ℚ◌
  sticks h =
      let vs = n ∷ j ∷ pos m ∷ [] in
      let ws = n ∷ j ∷ pos m ∷ pos r ∷ pos c ∷ [] in
      let low : (n +ℤ pos 1 -ℤ pos m) ≤ℤ (pos (2 * m) *ℤ j) =
      quarter_≤ (Z.≤_by _ (ring vs (search terms depth 20 fits 9999) tt) (Z.nonneg_difference h.low.cross)) in
      let high : (pos (2 * m) *ℤ j) ≤ℤ (n +ℤ pos m) =
      quarter_≤ (Z.≤_by _ (ring vs (search terms depth 20 fits 9999) tt) (Z.nonneg_difference h.high.cross)) in
      let s = Z.pos_<_of_< some in
      let b = Z.pos_<_of_< below in
      half_even_strict
      (record {
        cross = Z.<_by
            ((pos (2 * m) *ℤ j -ℤ (n +ℤ pos 1 -ℤ pos m)) *ℤ pos (2 * c) +ℤ (pos c -ℤ pos r) *ℤ pos 2)
            (ring ws (search terms depth 20 fits 9999) tt) (search signs);
      })
      (record {
        cross = Z.<_by (((n +ℤ pos m) -ℤ pos (2 * m) *ℤ j) *ℤ pos (2 * c) +ℤ pos r *ℤ pos 2)
            (ring ws (search terms depth 20 fits 9999) tt) (search signs);
      })

pub round_sticky : {rnd : Fraction → ℤ} → Rounding rnd → (n : ℤ) (r c m : ℕ) → r < c → 0 < m →
    rnd (divided_twice n r c m) ≡ rnd (stuck n r c m)
round_sticky k n r c m below some =
    let c_pos : pos 0 <ℤ pos c = Z.pos_<_of_< (omega arith) in
    let m_pos : pos 0 <ℤ pos (2 * m) = Z.pos_<_of_< (omega arith) in
    let n_pos : pos 0 <ℤ pos (2 * (2 * m)) = Z.pos_<_of_< (omega arith) in
    elim (true_or_false (eqb r 0)) [
      | inl e ↦
          let none = eqb-true r 0 e in
          rw (e, none) (k.alike (search (propers, signs)) (search (propers, signs))
          (field (n ∷ pos c ∷ pos m ∷ []) (search ratios depth 20 fits 9999) tt))
      | inr e ↦ rw e (k.unique (search (propers, signs))
          (sticks n _ r c m (let h = eqb-false r 0 e in omega arith) below (k.nearest _ (search (propers, signs)))))
    ]
