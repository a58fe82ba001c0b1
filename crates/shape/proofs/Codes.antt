-- The rule that each shape's code stands for; code_most, the largest code; row_then, a row before something else.
-- Assumes nothing.
use mathlib.Core.Path.{◌≡◌, refl}
use mathlib.Core.Bool.{Bool, true, false, cond}
use lib.Dec.{lit<, lit≤}
use Prim.Native.Nat.{ℕ, ◌≤◌}
use Rattle.model.specs.Answer.{Answer, refused, row, ◌then◌}
use Rattle.model.specs.Points.{rising, convex, plain, mirrored, rule_of}
use Rattle.shape.specs.declared.Shape.{Shape}
use Rattle.shape.specs.declared.Shape.TheVariants.{Rising, Convex, Falling, Concave}
use Rattle.shape.specs.Codes.{code_of}
use Rattle.model.proofs.Codes.{rule_of_1, rule_of_2, mirrored_of, rising_of_1, convex_of_2}

pub rule_of_rising : rule_of 1 ≡ plain rising
rule_of_rising = rule_of_1 {code = 1} refl

pub rule_of_convex : rule_of 2 ≡ plain convex
rule_of_convex = rule_of_2 {code = 2} refl

pub rule_of_falling : rule_of 3 ≡ mirrored rising
rule_of_falling = rw (mirrored_of {code = 3} (lit< tt), rising_of_1 {code = 1} refl)

pub rule_of_concave : rule_of 4 ≡ mirrored convex
rule_of_concave = rw (mirrored_of {code = 4} (lit< tt), convex_of_2 {code = 2} refl)

pub code_most : (shape : Shape) → code_of shape ≤ 4
code_most Rising = lit≤ tt
code_most Convex = lit≤ tt
code_most Falling = lit≤ tt
code_most Concave = lit≤ tt

pub row_then : {A : Type 0} (b : Bool) (number place : ℕ) (rest : Answer A) →
    (row b number place then rest) ≡ cond b (refused number place) rest
unfolding row ◌then◌
row_then true number place rest = refl
row_then false number place rest = refl
