-- The shape and the rule that a code stands for.
--   rising_of_1, convex_of_not_1, convex_of_2    the shape
--   plain_of, mirrored_of                        the rule, up to 2 and beyond; rule_of_1, rule_of_2
-- Assumes nothing.
use mathlib.Core.Path.{◌≡◌, ◌∙◌, ap}
use Prim.Native.Nat.{ℕ, ◌-◌, ◌≤◌, ◌<◌}
use native.Mathlib.Omega.{arith}
use borrow.Author.Tests.{eq-eqb, ne_eqb, le-leb, lt-leb}
use Rattle.model.specs.Points.{rising, convex, shape_of, plain, mirrored, rule_of}

pub rising_of_1 : {code : ℕ} → code ≡ 1 → shape_of code ≡ rising
unfolding shape_of
rising_of_1 {code} e = rw (eq-eqb code 1 e)

pub convex_of_not_1 : {code : ℕ} → (code ≡ 1 → ⊥) → shape_of code ≡ convex
unfolding shape_of
convex_of_not_1 {code} n = rw (ne_eqb code 1 n)

pub convex_of_2 : {code : ℕ} → code ≡ 2 → shape_of code ≡ convex
convex_of_2 e = convex_of_not_1 (λ o. omega arith)

pub plain_of : {code : ℕ} → code ≤ 2 → rule_of code ≡ plain (shape_of code)
unfolding rule_of
plain_of {code} h = rw (le-leb code 2 h)

pub rule_of_1 : {code : ℕ} → code ≡ 1 → rule_of code ≡ plain rising
rule_of_1 e = plain_of (omega arith) ∙ ap plain (rising_of_1 e)

pub rule_of_2 : {code : ℕ} → code ≡ 2 → rule_of code ≡ plain convex
rule_of_2 e = plain_of (omega arith) ∙ ap plain (convex_of_2 e)

pub mirrored_of : {code : ℕ} → 2 < code → rule_of code ≡ mirrored (shape_of (code - 2))
unfolding rule_of
mirrored_of {code} h = rw (lt-leb code 2 h)
