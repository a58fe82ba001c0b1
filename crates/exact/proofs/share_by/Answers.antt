-- `exact::share_by` meets its contract. With c = d k − g and x y = n k + l, the product is q c + r for r = (n mod d) k + q g + l,
-- which is less than 2 c.
-- Assumes nothing.
use mathlib.Core.Path.{◌≡◌, sym, ap, ◌≡⟨◌⟩◌, ◌∎}
use mathlib.Core.List.{[], ◌∷◌}
use Prim.Native.Nat.{ℕ, ◌+◌, ◌-◌, ◌*◌, ◌/◌, ◌%◌, ◌^◌, ◌≤◌, ◌<◌}
use native.Mathlib.Nat.{mod-lt, mul-le-mul_left, mul-le-mul_right, le-mul_of_pos_right, div-add-mod', le-div_iff_mul-le}
use native.Mathlib.Nat.{le_trans, le_of_lt, le-add_right, lt_of_lt_of_le, lt_of_le_of_lt, sub-le, div-le_self}
use native.Mathlib.Omega.{arith}
use Rattle.exact.specs.Inner.{Shared}
use mathlib.Core.Logic.{inl, inr}
use Rattle.exact.proofs.Tests.{compare}
use Rattle.exact.proofs.Ring.{ring_ℕ, terms}
use Rattle.exact.proofs.share_by.Goals as goal

module _ {x y c k : ℕ} (h : Shared x y c k) where
  abbrev d : ℕ
  d = c / k + 1

  abbrev g : ℕ
  g = k - c % k

  abbrev p : ℕ
  p = x % k * y

  abbrev n : ℕ
  n = x / k * y + p / k

  abbrev q : ℕ
  q = n / d

  abbrev r : ℕ
  r = n % d * k + q * g + p % k

  -- c = d k − g
  divisor_split : d * k ≡ c + g
  divisor_split =
      let m = mod-lt c h.base in
      let e = div-add-mod' c k in
      omega arith

  -- x y = n k + l
  product_split : x * y ≡ n * k + p % k
  product_split =
      x * y ≡⟨ ap (λ (z : ℕ). z * y) (sym (div-add-mod' x k)) ⟩
      (x / k * k + x % k) * y ≡⟨ ring_ℕ (x / k ∷ x % k ∷ k ∷ y ∷ []) (search terms depth 20 fits 9999) tt ⟩
      x / k * y * k + p ≡⟨ ap (λ (z : ℕ). x / k * y * k + z) (sym (div-add-mod' p k)) ⟩
      x / k * y * k + (p / k * k + p % k) ≡⟨ ring_ℕ (x / k ∷ p / k ∷ p % k ∷ k ∷ y ∷ []) (search terms depth 20 fits 9999) tt ⟩
      n * k + p % k ∎

  divided : x * y ≡ q * c + r
  divided =
      x * y ≡⟨ product_split ⟩
      n * k + p % k ≡⟨ ap (λ (z : ℕ). z * k + p % k) (sym (div-add-mod' n d)) ⟩
      (q * d + n % d) * k + p % k ≡⟨ ring_ℕ (q ∷ d ∷ k ∷ n % d ∷ p % k ∷ []) (search terms depth 20 fits 9999) tt ⟩
      q * (d * k) + n % d * k + p % k ≡⟨ ap (λ (z : ℕ). q * z + n % d * k + p % k) divisor_split ⟩
      q * (c + g) + n % d * k + p % k ≡⟨ ring_ℕ (q ∷ c ∷ g ∷ n % d * k ∷ p % k ∷ []) (search terms depth 20 fits 9999) tt ⟩
      q * c + r ∎

  divisor_positive : 0 < c
  divisor_positive =
      let k_positive = h.base in
      lt_of_lt_of_le k_positive (le_trans (le-mul_of_pos_right k (omega arith)) h.room)

  quotient_most : q ≤ x * y / c
  quotient_most = (le-div_iff_mul-le divisor_positive).1 (rw divided (le-add_right (q * c) r))

  -- at most d − 1 times k, at most q times g, and less than k
  rest_split : r < c + g + q * g
  rest_split =
      let m = mul-le-mul_right k (mod-lt n {m = d} (omega arith)) in
      let l = mod-lt p h.base in
      omega (arith, divisor_split, m, l)

  rest_most : r < c + c
  rest_most =
      let m = mul-le-mul_left k quotient_most in
      let l = mul-le-mul_left q (sub-le k (c % k)) in
      omega (arith, rest_split, m, l, sub-le k (c % k), h.room)

  digits_most : n < 2 ^ 64
  digits_most =
      elim (compare (2 ^ 64) n) [
        | inl (m, _) ↦ absurd (let l = mul-le-mul_right k m in omega (arith, product_split, h.size))
        | inr (m, _) ↦ m
      ]

  digit_most : p < 2 ^ 64
  digit_most = let m = mul-le-mul_right y (le_of_lt (mod-lt x h.base)) in omega (arith, h.digit)

  rest_fits : r < 2 ^ 64
  rest_fits = omega (arith, rest_most, h.divisor)

  next_most : q + 1 ≤ c
  next_most =
      let m = mul-le-mul_left k quotient_most in
      let l = mul-le-mul_right (q + 1) h.base in
      omega (arith, m, l, h.room)

one_more : {n c r : ℕ} (q : ℕ) → n ≡ q * c + r → c ≤ r → n ≡ (q + 1) * c + (r - c)
one_more q e h = omega arith

pub returns-then-r-c : goal.returns-then-r-c
returns-then-r-c c = record { product = divided c.before.requires; rest = c.if-r-c.true }

pub returns : goal.returns
returns c =
    let h = c.before.requires in
    let low = c.if-r-c.false in
    record { product = one_more (q h) (divided h) low; rest = omega (arith, rest_most h) }

pub nonzero_div-d : goal.nonzero_div-d
nonzero_div-d c =
    c.requires.base

pub overflow_add-d : goal.overflow_add-d
overflow_add-d c =
    record { fits = omega (arith, div-le_self c.args.c c.args.k, c.requires.divisor) }

pub nonzero_rem-g : goal.nonzero_rem-g
nonzero_rem-g c =
    c.requires.base

pub overflow_sub-g : goal.overflow_sub-g
overflow_sub-g c =
    le_of_lt (mod-lt _ c.requires.base)

pub nonzero_rem-p : goal.nonzero_rem-p
nonzero_rem-p c =
    c.requires.base

pub overflow_mul-p : goal.overflow_mul-p
overflow_mul-p c =
    record { fits = digit_most c.requires }

pub nonzero_div-n : goal.nonzero_div-n
nonzero_div-n c =
    c.requires.base

pub overflow_mul-n : goal.overflow_mul-n
overflow_mul-n c =
    record { fits = lt_of_le_of_lt (le-add_right _ _) (digits_most c.requires) }

pub nonzero_div-n-2 : goal.nonzero_div-n-2
nonzero_div-n-2 c =
    c.requires.base

pub overflow_add-n : goal.overflow_add-n
overflow_add-n c =
    record { fits = digits_most c.requires }

pub overflow_mul-r : goal.overflow_mul-r
overflow_mul-r c =
    record { fits = omega (arith, rest_fits c.requires) }

pub overflow_mul-r-2 : goal.overflow_mul-r-2
overflow_mul-r-2 c =
    record { fits = omega (arith, rest_fits c.requires) }

pub overflow_add-r : goal.overflow_add-r
overflow_add-r c =
    record { fits = omega (arith, rest_fits c.requires) }

pub nonzero_rem-r-2 : goal.nonzero_rem-r-2
nonzero_rem-r-2 c =
    c.requires.base

pub overflow_add-r-2 : goal.overflow_add-r-2
overflow_add-r-2 c =
    record { fits = rest_fits c.requires }

pub overflow_add-result : goal.overflow_add-result
overflow_add-result c =
    let h = c.before.requires in record { fits = omega (arith, next_most h, h.divisor) }
