-- No factor is taken for a refusal.
-- Assumes nothing.
use mathlib.Core.Path.{◌≡◌, refl}
use mathlib.Core.List.{List, [], ◌∷◌}
use Prim.Native.Nat.{ℕ, ◌≤◌}
use native.Mathlib.Omega.{arith}
use lib.Dec.{ltb}
use lib.IntN.{ℤ, pos, neg_ℤ, ◌-ℤ◌}
use lib.Signed.{◌≤ℤ◌}
use Rattle.exact.proofs.Ring.{ring, terms}
use Rattle.exact.proofs.Order as Z
use Rattle.model.specs.Answer.{Answer, gives, refused, row}
use Rattle.model.proofs.Rows.{then_rest}
use Rattle.model.proofs.Answers.{factor_is_high}
use Rattle.model.proofs.Numbered.{Numbered, in_row, in_then, in_reading}
use Rattle.layout.specs.Head.{head_rows}
use Rattle.layout.proofs.Heads.{in_head}
use Rattle.desk_answer.specs.Desk.{answer_with, desk_number}
use Rattle.desk_answer.specs.Laws.{Apart, FactorsAndRefusalsApart}

-- what a refusal's number is below −1,000,001
below_by : (number : ℕ) → neg_ℤ (pos 1000001) -ℤ (neg_ℤ (pos 1000000) -ℤ pos number) ≡ pos number -ℤ pos 1
below_by number = ring (pos number ∷ []) (search terms depth 20 fits 9999) tt

refusal_is_low : {number : ℕ} → 1 ≤ number → (neg_ℤ (pos 1000000) -ℤ pos number) ≤ℤ neg_ℤ (pos 1000001)
refusal_is_low {number} h = Z.≤_by (pos number -ℤ pos 1) (below_by number) (Z.nonneg_difference (Z.pos_≤_of_≤ h))

in_desk : (room : ℕ) (bytes : List ℕ) (area scratch : ℕ) → Numbered (answer_with room bytes area scratch)
unfolding answer_with
in_desk room bytes area scratch =
    in_then _ _ (in_head bytes) (λ _. in_then _ _ (in_row _ 11 0 tt (omega arith)) (λ _. in_reading _ _ area))

by_cases : (a : Answer ℤ) → Numbered a → ((factor : ℤ) → a ≡ gives factor → neg_ℤ (pos 200000) ≤ℤ factor) → Apart a
unfolding Apart desk_number
by_cases (gives factor) n high = high factor refl
by_cases (refused number place) n high = refusal_is_low n.least

pub apart : FactorsAndRefusalsApart
unfolding answer_with
apart room bytes area scratch =
    by_cases (answer_with room bytes area scratch) (in_desk room bytes area scratch)
    (λ factor e. factor_is_high _ _ _ (then_rest (row (ltb scratch room) 11 0) _ (then_rest (head_rows bytes) _ e)))
