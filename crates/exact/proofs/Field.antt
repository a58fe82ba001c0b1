-- The field tactic: equal fractions, written with +, −, ·, / over terms of the ring tactic.
--   field ρ (search ratios depth 20 fits 9999) tt : x ≈ℚ y
--   ρ    the variables, each once, of which a fraction x is two: `x ∷ℚ ρ` is `x.num ∷ x.den ∷ ρ`
-- How it works: `search ratios` finds each side as a `Ratio`, whose numerator and denominator have normal forms; the cross
-- products have the residue 0. How it fails: as the ring tactic does, with Ratios for Sides.
-- Assumes nothing.
use mathlib.Core.Path.{◌≡◌, refl, sym, ◌∙◌}
use mathlib.Core.List.{List, ◌∷◌}
use lib.Dec.{T}
use lib.IntN.{ℤ, pos, ◌*ℤ◌}
use Rattle.exact.specs.Fraction.{Fraction, ◌over◌, whole, ◌+ℚ◌, ◌-ℚ◌, ◌*ℚ◌, ◌/ℚ◌, ◌≈ℚ◌}
use Rattle.exact.proofs.Integer.{≡_of_difference}
use Rattle.exact.proofs.Poly.{Poly, con, value, plus, times, is_zero, plus_value, times_value, zero_value}
use Rattle.exact.proofs.Ring.{Var, Term, var, terms, normal, normal_value, minus, minus_value}

infixr 5 ◌∷ℚ◌
abbrev pub ◌∷ℚ◌ : Fraction → List ℤ → List ℤ
x ∷ℚ ρ = x.num ∷ x.den ∷ ρ

pub data Ratio (ρ : List ℤ) : Fraction → Type 0 where
  atom : {x : Fraction} → Var x.num ρ → Var x.den ρ → Ratio ρ x
  of_over : {a b : ℤ} → Term ρ a → Term ρ b → Ratio ρ (a over b)
  of_whole : {a : ℤ} → Term ρ a → Ratio ρ (whole a)
  sum : {x y : Fraction} → Ratio ρ x → Ratio ρ y → Ratio ρ (x +ℚ y)
  dif : {x y : Fraction} → Ratio ρ x → Ratio ρ y → Ratio ρ (x -ℚ y)
  pro : {x y : Fraction} → Ratio ρ x → Ratio ρ y → Ratio ρ (x *ℚ y)
  quo : {x y : Fraction} → Ratio ρ x → Ratio ρ y → Ratio ρ (x /ℚ y)

-- both sides of an identity
pub data Ratios (ρ : List ℤ) : Fraction → Fraction → Type 0 where
  ratio_sides : {x y : Fraction} → Ratio ρ x → Ratio ρ y → Ratios ρ x y

pub ruleset ratios = (of_whole, of_over, sum, dif, pro, quo, atom, ratio_sides, terms)

-- numerator and denominator as normal forms
pub record Parts : Type 0 where
  pub top : Poly
  pub bottom : Poly

abbrev pub crossed : Parts → Parts → Poly
crossed p q = times p.top q.bottom

abbrev pub sum_parts : Parts → Parts → Parts
sum_parts p q = record { top = plus (crossed p q) (crossed q p); bottom = times p.bottom q.bottom }

abbrev pub dif_parts : Parts → Parts → Parts
dif_parts p q = record { top = plus (crossed p q) (minus (crossed q p)); bottom = times p.bottom q.bottom }

abbrev pub pro_parts : Parts → Parts → Parts
pro_parts p q = record { top = times p.top q.top; bottom = times p.bottom q.bottom }

abbrev pub quo_parts : Parts → Parts → Parts
quo_parts p q = record { top = crossed p q; bottom = times p.bottom q.top }

abbrev pub parts : {ρ : List ℤ} {x : Fraction} → Ratio ρ x → Parts
parts (atom v w) = record { top = normal (var v); bottom = normal (var w) }
parts (of_over s t) = record { top = normal s; bottom = normal t }
parts (of_whole s) = record { top = normal s; bottom = con (pos 1) }
parts (sum s t) = sum_parts (parts s) (parts t)
parts (dif s t) = dif_parts (parts s) (parts t)
parts (pro s t) = pro_parts (parts s) (parts t)
parts (quo s t) = quo_parts (parts s) (parts t)

pub record Means (ρ : List ℤ) (p : Parts) (x : Fraction) : Type 0 where
  pub top : value p.top ρ ≡ x.num
  pub bottom : value p.bottom ρ ≡ x.den

-- the value of a sum or product of normal forms, from theirs
ruleset value_laws = (plus_value, minus_value, times_value)

means : {ρ : List ℤ} {x : Fraction} (r : Ratio ρ x) → Means ρ (parts r) x
unfolding ◌over◌ whole ◌+ℚ◌ ◌-ℚ◌ ◌*ℚ◌ ◌/ℚ◌
means (atom v w) = record { top = normal_value (var v); bottom = normal_value (var w) }
means (of_over s t) = record { top = normal_value s; bottom = normal_value t }
means (of_whole s) = record { top = normal_value s; bottom = refl }
means (sum s t) =
    let m = means s in
    let n = means t in
    record { top = simp (value_laws, m.top, m.bottom, n.top, n.bottom); bottom = simp (value_laws, m.bottom, n.bottom) }
means (dif s t) =
    let m = means s in
    let n = means t in
    record { top = simp (value_laws, m.top, m.bottom, n.top, n.bottom); bottom = simp (value_laws, m.bottom, n.bottom) }
means (pro s t) =
    let m = means s in
    let n = means t in
    record { top = simp (value_laws, m.top, n.top); bottom = simp (value_laws, m.bottom, n.bottom) }
means (quo s t) =
    let m = means s in
    let n = means t in
    record { top = simp (value_laws, m.top, n.bottom); bottom = simp (value_laws, m.bottom, n.top) }

abbrev pub cross_residue : {ρ : List ℤ} {x y : Fraction} → Ratios ρ x y → Poly
cross_residue (ratio_sides s t) = (parts (dif s t)).top

pub field : (ρ : List ℤ) {x y : Fraction} (s : Ratios ρ x y) → T (is_zero (cross_residue s)) → x ≈ℚ y
unfolding ◌-ℚ◌
field ρ (ratio_sides {x = x} {y = y} s t) h =
    record {
      cross = ≡_of_difference (x.num *ℤ y.den) (y.num *ℤ x.den)
          (sym (means (dif s t)).top ∙ zero_value (cross_residue (ratio_sides s t)) ρ h);
    }
