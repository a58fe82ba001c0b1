-- The sizes of what `part`, `rising`, `excess`, `leading` and `hundredths` compute.
--   whole_size, share_size, share_most   B; A F and B / 2, and the quotient by B
--   denominator_size                     W h
--   w_most, w_most_size                  w in the whole segment
--   shared                               what the quotient of w w asks where it may pass 64 bits
--   excess_divided, excess_most          that quotient by a division, and how large it is
--   large_positive, leads, around_most   the same by leading bits
--   sum_size, sum_fits, sum_fits_32      the sum in hundredths; sum_is, result_read, as the code has it
-- Assumes nothing.
use mathlib.Core.Path.{◌≡◌, sym, ◌∙◌, ap}
use mathlib.Core.List.{[], ◌∷◌}
use mathlib.Core.Logic.{inl, inr}
use Prim.Native.Nat.{ℕ, zero, suc, ◌+◌, ◌-◌, ◌*◌, ◌/◌, ◌%◌, ◌^◌, ◌≤◌, ◌<◌}
use native.Mathlib.Nat.{mul-le-mul, mul-le-mul_left, mul-le-mul_right, le-mul_of_pos_right, div-mul-le_self, le_trans}
use native.Mathlib.Nat.{mod-lt, div-add-mod', mul-pos}
use native.Mathlib.Nat.{le_of_mul-le-mul_right, lt_of_mul-lt-mul_right, div-lt_iff_lt-mul, lt-mul-div-succ}
use native.Mathlib.Omega.{arith}
use lib.Arith.{digits_div}
use lib.Dec.{lit<}
use lib.IntN.{ℤ, pos, nat_abs, ◌+ℤ◌, ◌*ℤ◌}
use mir.Syntax.{w32, w64}
use mir.Val.{SFits, to_z, of_z}
use mir.Facts.{to_z-of_z, to_z_pos}
use Rattle.exact.specs.Inner.{Shared}
use Rattle.exact.proofs.Ring.{ring_ℕ, terms}
use Rattle.exact.proofs.Tests.{compare}
use Rattle.exact.proofs.Magnitude.{scaled_size, size_+, size_*, sfits_of_size}
use Rattle.model.specs.Points.{gap_most, value_most, slope_most}
use Rattle.shape.specs.Inner.{over_most}
use Rattle.segment.specs.Inner.{part, Weights, left_part, whole_part, RisingInput}
use Rattle.segment.specs.Inner.{BentInput, Excess, Large, Around, SumInput, hundredths_of}

blend_size : (t u : ℕ) {g e m : ℕ} → t + u ≤ gap_most → g ≤ m → e ≤ m → g * t + e * u ≤ gap_most * m
blend_size t u {m = m} near k l =
    omega (arith, mul-le-mul_right t k, mul-le-mul_right u l, mul-le-mul_right m near)

-- ---- rising

module _ {t u g e : ℕ} (k : Weights t u g e) where
  part_blend : g * t + e * u ≤ gap_most * over_most
  part_blend = blend_size t u k.near k.first k.second

  part_size : part t u g e ≤ t * (gap_most * over_most)
  part_size = mul-le-mul_left t part_blend

module _ {t u left F D₀ D₁ : ℕ} (k : RisingInput t u left F D₀ D₁) where
  left_size : (t + u) * D₀ ≤ over_most
  left_size = mul-le-mul k.distances.most k.left_slope

  right_size : (t + u) * D₁ ≤ over_most
  right_size = mul-le-mul k.distances.most k.right_slope

  left_weights : Weights t u (100 * F) ((t + u) * D₀)
  left_weights = record { near = k.distances.most; first = omega (arith, k.rise); second = left_size }

  right_weights : Weights u t (100 * F) ((t + u) * D₁)
  right_weights =
      record { near = omega (arith, k.distances.most); first = omega (arith, k.rise); second = right_size }

  pub whole_size : whole_part t u F D₀ D₁ ≤ gap_most * (gap_most * over_most)
  whole_size = omega (arith, k.distances.most, part_size left_weights, part_size right_weights)

  pub share_size : left_part t u F D₀ D₁ * F + whole_part t u F D₀ D₁ / 2 ≤ 2 ^ 64 - 1
  share_size =
      let n = whole_size in
      omega (arith, mul-le-mul {n₁ = left_part t u F D₀ D₁} {n₂ = gap_most * (gap_most * over_most)} (omega arith) k.rise)

  -- A F is at most B F, and B / 2 less than B
  pub share_most : (left_part t u F D₀ D₁ * F + whole_part t u F D₀ D₁ / 2) / whole_part t u F D₀ D₁ ≤ value_most
  share_most =
      let A : ℕ = left_part t u F D₀ D₁ in
      let B : ℕ = whole_part t u F D₀ D₁ in
      let part : A * F ≤ B * F = mul-le-mul_right F (omega arith) in
      let m : (A * F + B / 2) / B < F + 1 = (div-lt_iff_lt-mul k.above_0).1 (omega (arith, part, k.above_0)) in
      omega (arith, m, k.rise)

-- ---- w w / z by leading bits: x is w without 5 bits, y is above z without 10

module _ (w x y z : ℕ)
    (x_low : 32 * x ≤ w)
    (x_high : w ≤ 32 * x + 31)
    (y_low : z < 1024 * y)
    (y_high : 1024 * y ≤ z + 1024)
    (large : 1000 ≤ w)
    (small : w * 100 ≤ z) where
  leading_low : x * x * z < w * w * y
  leading_low =
      let some : 0 < x = omega arith in
      let above : z + 1 ≤ 1024 * y = omega arith in
      omega (arith, mul-pos some some, mul-le-mul_right y (mul-le-mul x_low x_low), mul-le-mul_left (x * x) above)

  leading_high : w * w * y ≤ (x * x + y) * z
  leading_high =
      let rest : 73 * w + 961 ≤ z = omega arith in
      let square : w * w ≤ 1024 * (x * x) + 62 * w + 961 = omega (arith, mul-le-mul x_high x_high) in
      let k = mul-le-mul_left (w * w) y_high in
      let l = mul-le-mul_right w small in
      omega (arith, mul-le-mul_right z square, mul-le-mul_right z rest, mul-le-mul_right z y_low)

  leading_around : Around (w * w) z (x * x / y + 1)
  leading_around =
      let some : 0 < y = omega arith in
      let below = mul-le-mul_right z (div-mul-le_self (x * x) y) in
      let above = mul-le-mul_right z (lt-mul-div-succ (x * x) {b = y} some) in
      record {
        low = omega (arith, lt_of_mul-lt-mul_right y {m = x * x / y * z} {n = w * w} (omega (arith, leading_low, below)));
        high = lt_of_mul-lt-mul_right y {m = w * w} {n = (x * x / y + 1 + 1) * z}
            (omega (arith, leading_high, above, small, large));
      }

-- ---- convex

positive_right : (m n : ℕ) → 0 < m * n → 0 < n
positive_right m zero k = omega (arith, k)
positive_right m (suc n) k = omega arith

module _ {t u h a b : ℕ} (k : BentInput t u h a b) where
  abbrev w : ℕ
  w = b * t

  abbrev divisor : ℕ
  divisor = a * u + b * t

  h_size : h ≤ gap_most
  h_size = omega (arith, k.distances.most, k.sum)

  h_positive : 0 < h
  h_positive = omega (arith, k.distances.least, k.sum)

  divisor_size : divisor ≤ gap_most * (2 * over_most)
  divisor_size = blend_size u t (omega (arith, k.distances.most)) k.above k.below

  pub denominator_size : divisor * h ≤ gap_most * (2 * over_most) * gap_most
  denominator_size = mul-le-mul divisor_size h_size

  denominator_positive : 0 < divisor → 0 < divisor * h
  denominator_positive some = mul-pos some h_positive

  -- w in the whole segment
  pub w_most : w ≤ b * h
  w_most = mul-le-mul_left b (omega (arith, k.sum))

  pub w_most_size : b * h ≤ 2 * over_most * gap_most
  w_most_size = mul-le-mul k.below h_size

  -- e = w w / (W h) has e h at most w; h is at least 108, so that 108 e is at most w, and 108 w at most W h
  module _ (large : 2 ^ 32 ≤ b * h) (some : 0 < w) where
    abbrev e : ℕ
    e = w * w / (divisor * h)

    long : 108 ≤ h
    long = let m = mul-le-mul_right h k.below in omega arith

    w_least : 4096 ≤ w
    w_least =
        let m = mul-le-mul_left b h_size in
        let once = le-mul_of_pos_right b (positive_right b t some) in
        omega arith

    w_most_all : w ≤ 2 * over_most * gap_most
    w_most_all = le_trans w_most w_most_size

    w_least_of : w * h ≤ divisor * h
    w_least_of = mul-le-mul_right h (omega arith)

    quotient_most : e * h ≤ w
    quotient_most =
        le_of_mul-le-mul_right
        (omega (arith, mul-le-mul_left e w_least_of, div-mul-le_self (w * w) (divisor * h))) some

    pub shared : Shared w w (divisor * h) 4096
    shared =
        record {
          base = lit< tt;
          divisor = omega (arith, denominator_size);
          digit = omega (arith, w_most_all);
          size = omega (arith, mul-le-mul w_most_all w_most_all);
          room = omega (arith, quotient_most, mul-le-mul_left e long, mul-le-mul_left w long, w_least_of, w_least);
        }

  -- by a division
  pub excess_divided : 0 < w → Excess t u h a b (w * w / (divisor * h)) (w * w % (divisor * h))
  excess_divided some =
      record {
        divided = λ _. record {
          product = sym (div-add-mod' (w * w) (divisor * h));
          rest = mod-lt (w * w) (denominator_positive (omega (arith, some)));
        };
        none = λ e. absurd (omega (arith, some));
      }

  pub large_positive : Large t h b → 0 < w
  large_positive l = omega (arith, l.large, mul-le-mul_left b h_size, le-mul_of_pos_right b l.some)

  pub leads : Large t h b → Around (w * w) (divisor * h) (w / 32 * (w / 32) / (divisor * h / 1024 + 1) + 1)
  leads l =
      let steep = mul-le-mul_left b h_size in
      let long = mul-le-mul_right h k.below in
      let once = le-mul_of_pos_right b l.some in
      leading_around w (w / 32) (divisor * h / 1024 + 1) (divisor * h)
      (omega arith) (omega arith) (omega arith) (omega arith) (omega (arith, l.large))
      (mul-le-mul {n₁ = w} {m₁ = 100} {n₂ = divisor} {m₂ = h} (omega arith) (omega (arith, l.large)))

  -- less than one off a quotient of at most b
  pub around_most : {m : ℕ} → Around (w * w) (divisor * h) m → 0 < divisor → m ≤ 2 * over_most + 1
  around_most {m} e some =
      let near : w * t ≤ divisor * h = mul-le-mul (omega arith) (omega (arith, k.sum)) in
      let same : w * w ≡ w * t * b = ring_ℕ (b ∷ t ∷ []) (search terms depth 20 fits 9999) tt in
      let most : w * w ≤ divisor * h * b = rw same (mul-le-mul_right b near) in
      let l : m < b + 2 = lt_of_mul-lt-mul_right (divisor * h) {m = m} {n = b + 2} (omega (arith, e.low, most)) in
      omega (arith, k.below)

  pub excess_most : {q r : ℕ} → Excess t u h a b q r → q ≤ 2 * over_most
  excess_most {q} {r} e =
      elim (compare 1 w) [
        | inl (some, _) ↦
            let d = e.divided (omega arith) in
            let near : w * t ≤ divisor * h = mul-le-mul (omega arith) (omega (arith, k.sum)) in
            let same : w * w ≡ w * t * b = ring_ℕ (b ∷ t ∷ []) (search terms depth 20 fits 9999) tt in
            let is : w * t * b / (divisor * h) ≡ q =
            ap (λ (n : ℕ). n / (divisor * h)) (sym same ∙ d.product) ∙ digits_div q d.rest in
            rw (← is) (le_trans (scaled_size {x = w * t} {c = divisor * h} b near) k.below)
        | inr (none, _) ↦ rw (e.none (omega arith)).0 (omega arith)
      ]

-- ---- the sum in hundredths

module _ {left : ℕ} {slope : ℤ} {t above : ℕ} (k : SumInput left slope t above) where
  abbrev product : ℤ
  product = slope *ℤ pos t

  product_most : nat_abs product ≤ slope_most * gap_most
  product_most = omega (arith, size_* slope (pos t), mul-le-mul k.steep k.near)

  abbrev from : ℕ
  from = 100 * left

  slope_fits : SFits w64 slope
  slope_fits = sfits_of_size w64 slope (omega (arith, k.steep))

  slope_read_32 : to_z w32 (of_z w32 slope) ≡ slope
  slope_read_32 = to_z-of_z (sfits_of_size w32 slope (omega (arith, k.steep)))

  slope_read : to_z w64 (of_z w64 (to_z w32 (of_z w32 slope))) ≡ slope
  slope_read = rw slope_read_32 (to_z-of_z slope_fits)

  product_fits : SFits w64 product
  product_fits = sfits_of_size w64 product (omega (arith, product_most))

  from_read : to_z w64 from ≡ pos from
  from_read = to_z_pos w64 (omega (arith, k.value))

  from_fits : SFits w64 (pos from +ℤ product)
  from_fits = sfits_of_size w64 (pos from +ℤ product) (omega (arith, size_+ (pos from) product, product_most, k.value))

  distance_read : to_z w64 t ≡ pos t
  distance_read = to_z_pos w64 (omega (arith, k.near))

  above_read : to_z w64 above ≡ pos above
  above_read = to_z_pos w64 (omega (arith, k.size))

  abbrev sum : ℤ
  sum = hundredths_of (pos left) slope t above

  pub sum_size : nat_abs sum ≤ 90000000
  sum_size =
      omega (arith, size_+ (pos from +ℤ product) (pos above), size_+ (pos from) product, product_most, k.size, k.value)

  pub sum_fits : SFits w64 sum
  sum_fits = sfits_of_size w64 sum (omega (arith, sum_size))

  pub sum_fits_32 : SFits w32 sum
  sum_fits_32 = sfits_of_size w32 sum (omega (arith, sum_size))

  -- as the code has it, in 64 bits
  pub sum_is :
      to_z w64 (of_z w64 (to_z w64 from +ℤ to_z w64 (of_z w64
      (to_z w64 (of_z w64 (to_z w32 (of_z w32 slope))) *ℤ to_z w64 t)))) +ℤ to_z w64 above ≡ sum
  sum_is = rw (slope_read, distance_read, to_z-of_z product_fits, from_read, to_z-of_z from_fits, above_read)

  -- and what `hundredths` gives, from the slope's bits
  pub result_read : {z : ℤ} → z ≡ hundredths_of (pos left) (to_z w32 (of_z w32 slope)) t above → to_z w32 (of_z w32 z) ≡ sum
  result_read e = rw (e, slope_read_32) (to_z-of_z sum_fits_32)
