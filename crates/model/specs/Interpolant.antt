-- Document 01, "The exact curve", with the report's (TR/10/83) equation numbers. In one segment: h the gap between the areas,
-- left and right the values, t the distance of the area read from the left end, d₀ and d₁ the slopes.
-- Assumes nothing.
use Rattle.std.specs.Prelude.{ℕ, cond, ◌&&◌, ℤ, pos, ◌-ℤ◌}
use Rattle.std.specs.Int.Signed.{lt_z}
use Rattle.exact.specs.Fraction.{Fraction, ◌over◌, whole, ◌+ℚ◌, ◌-ℚ◌, ◌*ℚ◌, ◌/ℚ◌, ltℚ}
use Rattle.model.specs.Points.{value_most, gradient, Segment, Shape, rising, convex, mirror_segment, Rule, plain, mirrored}

module _ (h left right t : ℤ) where
  -- c = F / h, the chord slope
  unfoldable pub chord : Fraction
  chord = (right -ℤ left) over h

  -- p = t / h
  unfoldable pub p : Fraction
  p = t over h

  -- q = u / h with u = h − t
  unfoldable pub q : Fraction
  q = (h -ℤ t) over h

  module _ (d₀ d₁ r : Fraction) where
    -- (2.4)
    unfoldable pub P : Fraction
    P =
        whole right *ℚ (p *ℚ p *ℚ p) +ℚ (r *ℚ whole right -ℚ whole h *ℚ d₁) *ℚ (p *ℚ p *ℚ q)
        +ℚ (r *ℚ whole left +ℚ whole h *ℚ d₀) *ℚ (p *ℚ q *ℚ q) +ℚ whole left *ℚ (q *ℚ q *ℚ q)

    -- (2.5)
    unfoldable pub Q : Fraction
    Q = whole (pos 1) +ℚ (r -ℚ whole (pos 3)) *ℚ (p *ℚ q)

    -- (2.3)
    unfoldable pub rational : Fraction
    rational = P /ℚ Q

  module _ (d₀ d₁ : Fraction) where
    -- (3.9): r = 1 + (d₀ + d₁) / c
    unfoldable pub r_rising : Fraction
    r_rising = whole (pos 1) +ℚ (d₀ +ℚ d₁) /ℚ chord

    -- (3.21): r = 1 + a / b + b / a with a = d₁ − c and b = c − d₀
    unfoldable pub r_convex : Fraction
    r_convex = whole (pos 1) +ℚ (d₁ -ℚ chord) /ℚ (chord -ℚ d₀) +ℚ (chord -ℚ d₀) /ℚ (d₁ -ℚ chord)

    -- shape 1: with F above 0 by (3.9); with F = 0 constant, as (3.11)
    unfoldable pub rising_curve : Fraction
    rising_curve = cond (lt_z (pos 0) (right -ℤ left)) (rational d₀ d₁ r_rising) (whole left)

    -- shape 2: with d₀ below c and c below d₁ by (3.21); with d₀ = c = d₁ the straight line
    unfoldable pub convex_curve : Fraction
    convex_curve =
        cond (ltℚ d₀ chord && ltℚ chord d₁) (rational d₀ d₁ r_convex) (whole left +ℚ chord *ℚ whole t)

    unfoldable pub curve : Shape → Fraction
    curve rising = rising_curve
    curve convex = convex_curve

unfoldable pub interpolant : Shape → Segment → ℕ → Fraction
interpolant shape s area =
    curve (pos s.right.area -ℤ pos s.left.area) (pos s.left.value) (pos s.right.value)
    (pos area -ℤ pos s.left.area) (gradient s.left) (gradient s.right) shape

-- Document 02, item 4: the exact curve of a rule; that on mirrored points is taken from 200,000 again
unfoldable pub exact_curve : Rule → Segment → ℕ → Fraction
exact_curve (plain shape) s area = interpolant shape s area
exact_curve (mirrored shape) s area = whole (pos value_most) -ℚ interpolant shape (mirror_segment s) area
