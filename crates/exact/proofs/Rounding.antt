-- The rounding rule.
--   Even z               z is twice a number, which the test says (`even_of_test`, `test_of_even`); even--, a difference of two
--   half_even_≤          what is at most one half off, and even there, keeps the order; so it is unique
--   round_rounding       `round` has the public face of a rounding rule (specs/Rounding.antt)
--   rounding_at_whole    what is the whole number k is rounded to k
-- Assumes nothing.
use mathlib.Core.Path.{◌≡◌, refl, sym, ◌∙◌, ap, ap₂, subst, ◌≡⟨◌⟩◌, ◌∎}
use mathlib.Core.Bool.{Bool, false, cond}
use mathlib.Core.List.{[], ◌∷◌}
use mathlib.Core.Logic.{◌⊎◌, inl, inr}
use Prim.Native.Nat.{ℕ, suc, ◌*◌, ◌/◌, ◌%◌}
use native.Mathlib.Omega.{arith}
use lib.Dec.{T, eqb→eq, eqb_refl, lit<}
use lib.IntN.{ℤ, pos, negsuc, neg_ℤ, nat_abs, ◌+ℤ◌, ◌-ℤ◌, ◌*ℤ◌}
use lib.Signed.{◌≤ℤ◌, ◌<ℤ◌, clash_ℤ}
use Rattle.exact.specs.Fraction.{Fraction, Proper, whole, ◌+ℚ◌, ◌-ℚ◌, ◌≈ℚ◌, ◌≤ℚ◌, ◌<ℚ◌, eqℚ}
use Rattle.exact.specs.Rounding.{floor_div, floor, half, even, even_from, round}
use Rattle.exact.specs.Rounding.{Greatest, HalfEven, Rounding, RoundIsRounding}
use Rattle.exact.proofs.Tests.{true_or_false}
use Rattle.exact.proofs.Ring.{ring, terms}
use Rattle.exact.proofs.Order as Z
use Rattle.exact.proofs.Field.{field, ratios, ◌∷ℚ◌}
use Rattle.exact.proofs.Fractions as Q
use Rattle.exact.proofs.Fractions.{propers, positivity}
use Rattle.exact.proofs.Magnitude.{size_*}
use Rattle.exact.proofs.Floor.{floor_div_quotient, floor_next, floor_greatest}

-- ---- even numbers

pub record Even (z : ℤ) : Type 0 where
  pub half_of : ℤ
  pub twice : z ≡ pos 2 *ℤ half_of

pub even_of_test : (z : ℤ) → T (even z) → Even z
unfolding even
even_of_test (pos n) t =
    let e = eqb→eq (n % 2) 0 t in
    record { half_of = pos (n / 2); twice = ap pos (omega arith) }
even_of_test (negsuc n) t =
    let e = eqb→eq (suc n % 2) 0 t in
    let m = suc n / 2 in
    let twice : suc n ≡ 2 * m = omega arith in
    record {
      half_of = neg_ℤ (pos m);
      twice = ap (λ (k : ℕ). neg_ℤ (pos k)) twice ∙ ring (pos m ∷ []) (search terms depth 20 fits 9999) tt;
    }

pub test_of_even : {z : ℤ} → Even z → T (even z)
unfolding even
test_of_even k =
    let m = nat_abs k.half_of in
    let none : 2 * m % 2 ≡ 0 = omega arith in
    rw (k.twice, size_* (pos 2) k.half_of, none) (eqb_refl 0)

pub even-- : {a b : ℤ} → Even a → Even b → Even (a -ℤ b)
even-- e f = record {
  half_of = e.half_of -ℤ f.half_of;
  twice = ap₂ (λ (a b : ℤ). a -ℤ b) e.twice f.twice
      ∙ ring (e.half_of ∷ f.half_of ∷ []) (search terms depth 20 fits 9999) tt;
}

pub even_or_next : (k : ℤ) → Even k ⊎ Even (k +ℤ pos 1)
even_or_next k =
    let q = floor_div k 2 in
    let d = floor_div_quotient k {d = 2} (lit< tt) in
    elim (Z.≤_or_< k (q *ℤ pos 2)) [
      | inl h ↦ inl (record { half_of = q; twice = Z.≤_antisym h d.low ∙ ring (q ∷ []) (search terms depth 20 fits 9999) tt })
      | inr h ↦ inr (record {
        half_of = q +ℤ pos 1;
        twice = Z.≤_antisym (Z.next_of_< d.high)
            (Z.≤_by _ (ring (q ∷ k ∷ []) (search terms depth 20 fits 9999) tt) (Z.nonneg_difference (Z.next_of_< h)))
            ∙ ring (q ∷ []) (search terms depth 20 fits 9999) tt;
      })
    ]

never_both : {k : ℤ} → Even k → Even (k +ℤ pos 1) → ⊥
never_both {k} e f = omega (arith, ap nat_abs one ∙ size_* (pos 2) (f.half_of -ℤ e.half_of))
  where
    twice_apart : (k +ℤ pos 1) -ℤ k ≡ pos 2 *ℤ f.half_of -ℤ pos 2 *ℤ e.half_of
    twice_apart = ap₂ (λ (a b : ℤ). a -ℤ b) f.twice e.twice

    one : pos 1 ≡ pos 2 *ℤ (f.half_of -ℤ e.half_of)
    one =
        pos 1 ≡⟨ ring (k ∷ []) (search terms depth 20 fits 9999) tt ⟩
        (k +ℤ pos 1) -ℤ k ≡⟨ twice_apart ⟩
        pos 2 *ℤ f.half_of -ℤ pos 2 *ℤ e.half_of ≡⟨ ring (e.half_of ∷ f.half_of ∷ []) (search terms depth 20 fits 9999) tt ⟩
        pos 2 *ℤ (f.half_of -ℤ e.half_of) ∎

-- ---- at most one half off, and even there

pub proper_half : Proper half
proper_half = search positivity

module _ {v w : Fraction} {j k : ℤ}
    (pv : Proper v)
    (pw : Proper w)
    (order : v ≤ℚ w)
    (hj : HalfEven v j)
    (hk : HalfEven w k) where
  -- k + 1 is at most one half above w
  next_above : w +ℚ half ≤ℚ whole (k +ℤ pos 1)
  next_above =
      Q.≤_by (search (propers, proper_half)) (search propers) (whole k -ℚ (w -ℚ half)) (search (propers, proper_half))
      (field (w ∷ℚ k ∷ []) (search ratios depth 20 fits 9999) tt)
      (Q.nonneg_difference hk.low)

  j_below : whole j ≤ℚ w +ℚ half
  j_below =
      Q.≤_trans (search propers) (search (propers, proper_half)) (search (propers, proper_half)) hj.high
      (Q.≤-+ pv proper_half pw proper_half order (Q.≤_of_≈ (Q.≈_refl half)))

  j_≤_next : j ≤ℤ (k +ℤ pos 1)
  j_≤_next =
      Q.≤_of_whole_≤ j (k +ℤ pos 1)
      (Q.≤_trans (search propers) (search (propers, proper_half)) (search propers) j_below next_above)

  -- where j is k + 1, both are one half off, and so even
  j_not_next : j ≡ k +ℤ pos 1 → ⊥
  j_not_next e =
      never_both
      (even_of_test k (hk.even_at_half (inl (Q.≤_antisym k_below hk.low))))
      (rw e at (even_of_test j (hj.even_at_half (inr (Q.≤_antisym hj.high v_below)))))
    where
      k_below : whole k ≤ℚ w -ℚ half
      k_below =
          Q.≤_by (search propers) (search (propers, proper_half))
          (w +ℚ half -ℚ whole (k +ℤ pos 1)) (search (propers, proper_half))
          (field (w ∷ℚ k ∷ []) (search ratios depth 20 fits 9999) tt)
          (Q.nonneg_difference (rw e at j_below))

      v_below : v +ℚ half ≤ℚ whole j
      v_below =
          rw e
          (Q.≤_trans (search (propers, proper_half)) (search (propers, proper_half)) (search propers)
          (Q.≤-+ pv proper_half pw proper_half order (Q.≤_of_≈ (Q.≈_refl half))) next_above)

  pub half_even_≤ : j ≤ℤ k
  half_even_≤ =
      elim (Z.≤_or_< j k) [
        | inl h ↦ h
        | inr h ↦ absurd (j_not_next (Z.≤_antisym j_≤_next (Z.next_of_< h)))
      ]

pub half_even_unique : {x : Fraction} {j k : ℤ} → Proper x → HalfEven x j → HalfEven x k → j ≡ k
half_even_unique {x} px hj hk =
    let same = Q.≤_of_≈ (Q.≈_refl x) in
    Z.≤_antisym (half_even_≤ px px same hj hk) (half_even_≤ px px same hk hj)

half_even_whole : (z : ℤ) → HalfEven (whole z) z
half_even_whole z = record {
  low = Q.≤_of_< below;
  high = Q.≤_of_< above;
  even_at_half = λ h. absurd (elim h [
    | inl e ↦ clash_ℤ below.cross (Q.≤_of_≈ e).cross
    | inr e ↦ clash_ℤ above.cross (Q.≤_of_≈ (Q.≈_sym e)).cross
  ]);
}
  where
    below : whole z -ℚ half <ℚ whole z
    below = Q.<_by (search positivity) (search positivity) half proper_half
        (field (z ∷ []) (search ratios depth 20 fits 9999) tt) (search positivity)

    above : whole z <ℚ whole z +ℚ half
    above = Q.<_by (search positivity) (search positivity) half proper_half
        (field (z ∷ []) (search ratios depth 20 fits 9999) tt) (search positivity)

-- an even number less what is so
half_even_from : {x : Fraction} {k : ℤ} (z : ℤ) → Proper x → Even z → HalfEven x k → HalfEven (whole z -ℚ x) (z -ℤ k)
half_even_from {x} {k} z px ez h = record {
  low = Q.≤_by (search (propers, proper_half)) (search propers) (x +ℚ half -ℚ whole k) (search (propers, proper_half))
      (field (x ∷ℚ z ∷ k ∷ []) (search ratios depth 20 fits 9999) tt) (Q.nonneg_difference h.high);
  high = Q.≤_by (search propers) (search (propers, proper_half)) (whole k -ℚ (x -ℚ half)) (search (propers, proper_half))
      (field (x ∷ℚ z ∷ k ∷ []) (search ratios depth 20 fits 9999) tt) (Q.nonneg_difference h.low);
  even_at_half = λ at. test_of_even (even-- ez (even_of_test k (h.even_at_half (elim at [
    | inl e ↦ inr (from_other (Q.≈_trans (search (propers, proper_half)) (Q.≈-- (Q.≈_refl (whole z)) e)
        (field (x ∷ℚ z ∷ []) (search ratios depth 20 fits 9999) tt)))
    | inr e ↦ inl (from_other (Q.≈_trans (search (propers, proper_half)) (Q.≈-- (Q.≈_refl (whole z)) e)
        (field (x ∷ℚ z ∷ []) (search ratios depth 20 fits 9999) tt)))
  ]))));
}
  where
    from_other : {y : Fraction} → whole z -ℚ whole (z -ℤ k) ≈ℚ y → whole k ≈ℚ y
    from_other e =
        Q.≈_trans (search propers) (field (z ∷ k ∷ []) (search ratios depth 20 fits 9999) tt) e

-- ---- the rule

pub record EvenFrom (k j : ℤ) : Type 0 where
  pub low : k ≤ℤ j
  pub high : j ≤ℤ (k +ℤ pos 1)
  pub test : T (even j)

≤_next : (k : ℤ) → k ≤ℤ (k +ℤ pos 1)
≤_next k = Z.≤_by (pos 1) (ring (k ∷ []) (search terms depth 20 fits 9999) tt) (Z.nonneg_pos 1)

even_from_even : (k : ℤ) → EvenFrom k (even_from k)
unfolding even_from
even_from_even k =
    elim (true_or_false (even k)) [
      | inl e ↦ subst (EvenFrom k) (sym (ap (λ (b : Bool). cond b k (k +ℤ pos 1)) e))
          (record { low = Z.≤_of_≡ refl; high = ≤_next k; test = rw e tt })
      | inr e ↦ subst (EvenFrom k) (sym (ap (λ (b : Bool). cond b k (k +ℤ pos 1)) e))
          (record {
            low = ≤_next k;
            high = Z.≤_of_≡ refl;
            test = elim (even_or_next k) [
              | inl w ↦ absurd (subst T e (test_of_even w))
              | inr w ↦ test_of_even w
            ];
          })
    ]

-- half way from k to k + 1 both are one half off
at_half : {x : Fraction} {k j : ℤ} → Proper x → x ≈ℚ whole k +ℚ half → EvenFrom k j → HalfEven x j
at_half {x} {k} {j} px e f = record {
  low = Q.≤_trans (search (propers, proper_half)) (search propers) (search propers) (Q.≤_of_≈ below)
      (Q.whole_≤_of_≤ k j f.low);
  high = Q.≤_trans (search propers) (search propers) (search (propers, proper_half)) (Q.whole_≤_of_≤ j (k +ℤ pos 1) f.high)
      (Q.≤_of_≈ (Q.≈_sym above));
  even_at_half = λ _. f.test;
}
  where
    below : x -ℚ half ≈ℚ whole k
    below =
        Q.≈_trans (search (propers, proper_half)) (Q.≈-- e (Q.≈_refl half))
        (field (k ∷ []) (search ratios depth 20 fits 9999) tt)

    above : x +ℚ half ≈ℚ whole (k +ℤ pos 1)
    above =
        Q.≈_trans (search (propers, proper_half)) (Q.≈-+ e (Q.≈_refl half))
        (field (k ∷ []) (search ratios depth 20 fits 9999) tt)

-- elsewhere the floor of x + ½ is less than one half off, or is one half above x and x half way from its floor
module _ (x : Fraction) (px : Proper x) where
  abbrev up : ℤ
  up = floor (x +ℚ half)

  up_greatest : Greatest (x +ℚ half) up
  up_greatest = floor_greatest (x +ℚ half) (search (propers, proper_half))

  less_than_half_below : x -ℚ half <ℚ whole up
  less_than_half_below =
      Q.<_by (search (propers, proper_half)) (search propers) (whole (up +ℤ pos 1) -ℚ (x +ℚ half)) (search (propers, proper_half))
      (field (x ∷ℚ up ∷ []) (search ratios depth 20 fits 9999) tt)
      (Q.positive_difference (floor_next (x +ℚ half) (search (propers, proper_half))))

  module _ (e : whole up ≈ℚ x +ℚ half) where
    x_is : x ≈ℚ whole (up -ℤ pos 1) +ℚ half
    x_is =
        Q.≈_trans (search (propers, proper_half)) (field (x ∷ℚ []) (search ratios depth 20 fits 9999) tt)
        (Q.≈_trans (search (propers, proper_half)) (Q.≈-- (Q.≈_sym e) (Q.≈_refl half))
        (field (up ∷ []) (search ratios depth 20 fits 9999) tt))

    before_up : whole (up -ℤ pos 1) ≤ℚ x
    before_up =
        Q.≤_by (search propers) px ((x +ℚ half -ℚ whole up) +ℚ half) (search (propers, proper_half))
        (field (x ∷ℚ up ∷ []) (search ratios depth 20 fits 9999) tt)
        (search (positivity, proper_half, up_greatest.not_above))

    below_up : (z : ℤ) → whole z ≤ℚ x → z <ℤ up
    below_up z h =
        let p = proper_half in
        let m : whole z +ℚ half ≤ℚ whole up =
        Q.≤_trans (search propers) (search propers) (search propers)
        (Q.≤-+ (search propers) p px p h (Q.≤_of_≈ (Q.≈_refl half))) (Q.≤_of_≈ (Q.≈_sym e)) in
        Q.<_of_whole_< z up
        (Q.<_by (search propers) (search propers) (half +ℚ (whole up -ℚ (whole z +ℚ half))) (search propers)
        (field (z ∷ up ∷ []) (search ratios depth 20 fits 9999) tt) (search positivity))

    floor_is : floor x ≡ up -ℤ pos 1
    floor_is =
        let f = floor_greatest x px in
        Z.≤_antisym
        (Z.≤_by _ (ring (floor x ∷ up ∷ []) (search terms depth 20 fits 9999) tt)
        (Z.nonneg_difference (Z.next_of_< (below_up (floor x) f.not_above))))
        (f.greatest (up -ℤ pos 1) before_up)

    half_way : T (eqℚ x (whole (floor x) +ℚ half))
    half_way = rw floor_is (Q.eqℚ_of_≈ x_is)

  off_half : eqℚ x (whole (floor x) +ℚ half) ≡ false → HalfEven x up
  off_half none = record {
    low = Q.≤_of_< less_than_half_below;
    high = up_greatest.not_above;
    even_at_half = λ h. absurd (elim h [
      | inl e ↦ clash_ℤ less_than_half_below.cross (Q.≤_of_≈ e).cross
      | inr e ↦ subst T none (half_way e)
    ]);
  }

round_nearest : (x : Fraction) → Proper x → HalfEven x (round x)
unfolding round
round_nearest x px =
    elim (true_or_false (eqℚ x (whole (floor x) +ℚ half))) [
      | inl e ↦ rw e (at_half px (Q.≈_of_eqℚ (rw e tt)) (even_from_even (floor x)))
      | inr e ↦ rw e (off_half x px e)
    ]

pub round_rounding : RoundIsRounding
round_rounding = record {
  nearest = round_nearest;
  unique = λ px h. half_even_unique px (round_nearest _ px) h;
  keeps_order = keeps_order;
  alike = Q.≡_of_keeps_order keeps_order;
  keeps_whole = λ z. half_even_unique (Q.proper_whole z) (round_nearest (whole z) (Q.proper_whole z)) (half_even_whole z);
  from_even = λ z t x px.
      half_even_unique (search propers) (round_nearest (whole z -ℚ x) (search propers))
      (half_even_from z px (even_of_test z t) (round_nearest x px));
}
  where
    keeps_order : (x y : Fraction) → Proper x → Proper y → x ≤ℚ y → round x ≤ℤ round y
    keeps_order x y px py h = half_even_≤ px py h (round_nearest x px) (round_nearest y py)

pub rounding_at_whole : {rnd : Fraction → ℤ} {v : Fraction} → Rounding rnd → (k : ℤ) → Proper v → v ≈ℚ whole k → rnd v ≡ k
rounding_at_whole r k pv e = r.alike pv (Q.proper_whole k) e ∙ r.keeps_whole k
