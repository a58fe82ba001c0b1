-- A list that is filled with figures, as long as row 5 refuses none.
--   Filled      the first i figures are in the first i entries, and none is too steep
--   starts      nothing is filled; goes_on, one figure more
--   refuses     the next figure is too steep
--   written     figures that are copied over a list of as many slopes
-- Assumes nothing.
use Rattle.std.proofs.Common.{◌≡◌, ℕ, ◌+◌, ◌<◌, false, ltb, List, length, set, ℤ, pos, sym, ◌∙◌, arith}
use Rattle.std.proofs.Common.{take, drop, ◌++◌, append-nil, inl, inr, lt-ltb, ltb-false, to_z, of_z, to_z-of_z, w32}
use lib.Seq.{take_at, drop-length}
use Rattle.exact.proofs.Tests.{compare, true_or_false}
use Rattle.model.specs.Answer.{Answer, gives, refused, row, ◌then◌, row_at_each}
use Rattle.model.specs.Points.{slope_most}
use Rattle.model.proofs.Rows.{gives_injective, refused≢gives, then_rest, row_passed}
use Rattle.model.proofs.Places.{each_first}
use Rattle.model.proofs.Filling.{Filling, filling_starts, filling_goes_on, tabulate_length}
use Rattle.harmonic.specs.Rule.{figure, figures}
use Rattle.harmonic.specs.Fill.{too_steep}

pub record Filled (areas values : List ℕ) (found filled : List ℤ) (i : ℕ) : Type 0 where
  pub filling : Filling (figure areas values) i found filled
  pub gentle : (j : ℕ) → j < i → too_steep areas values j ≡ false

-- row 5 of a figure
abbrev pub row_5 : ℕ → ℕ → Answer ℤ
row_5 i f = row (ltb slope_most f) 5 i then gives (pos f)

pub starts : (areas values : List ℕ) (found : List ℤ) → Filled areas values found found 0
starts areas values found = record { filling = filling_starts _ _; gentle = λ j h. absurd (omega arith) }

module _ {areas values : List ℕ} {found filled : List ℤ} {i f : ℕ} (k : Filled areas values found filled i)
    (e : pos f ≡ figure areas values i) where
  pub goes_on : {s : ℤ} → i < length found → gives s ≡ row_5 i f →
      Filled areas values found (set filled i (to_z w32 (of_z w32 s))) (i + 1)
  unfolding too_steep
  goes_on h g =
      let gentle = row_passed (ltb slope_most f) 5 i _ (sym g) in
      let s = gives_injective (then_rest (row (ltb slope_most f) 5 i) _ (sym g)) in
      let small = ltb-false slope_most f gentle in
      record {
        filling =
            filling_goes_on _ (pos 0) _ k.filling h
            (rw (← s) (to_z-of_z {w = w32} {z = pos f} (record { sfits = omega arith }) ∙ e));
        gentle = λ j b.
            elim (compare (j + 1) i) [
              | inl (m, t) ↦ k.gentle j (omega arith)
              | inr (m, t) ↦ let same : j ≡ i = omega arith in rw (same, ← e) gentle
            ];
      }

  pub refuses : {n number place : ℕ} → i < n → refused number place ≡ row_5 i f →
      refused number place ≡ row_at_each (too_steep areas values) 5 0 n
  unfolding too_steep row ◌then◌
  refuses {n} {number} {place} h g =
      elim (true_or_false (ltb slope_most f)) [
        | inl t ↦
            let first = each_first (too_steep areas values) 5 i n k.gentle (λ _. rw (← e) t) in
            let at_5 = rw t at g in
            let same : number ≡ 5 = cc in
            let here : place ≡ i = cc in
            rw (same, here) (rw (lt-ltb i n h) at first)
        | inr t ↦ absurd (refused≢gives (rw t at g))
      ]

pub written : (areas values : List ℕ) (found rest : List ℤ) {out copied : List ℤ} → length areas ≡ length found →
    out ≡ figures areas values ++ rest →
    copied ≡ take (length areas) out →
    copied ≡ figures areas values ++ drop (length (figures areas values)) found
written areas values found rest e filled copied =
    let size = tabulate_length (figure areas values) 0 (length areas) in
    let all : length (figures areas values) ≡ length found = size ∙ e in
    copied ∙ (rw (filled, all, drop-length found) (take_at (figures areas values) rest (length areas) size ∙ sym (append-nil _)))
