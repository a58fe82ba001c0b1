-- Tables of a function, and lists filled from the front or copied, one entry a turn.
--   tabulate_length, tabulate_at, map_tabulate    of a table
--   field_length, field_first                     a list that begins with a field of each of a table's first entries
--   filling_starts, filling_goes_on, filled_up    a list before the first turn, after one more, after the last
--   Copied, copying_goes_on                       a list whose first entries are those of another
-- Assumes nothing.
use mathlib.Core.Path.{◌≡◌, refl, sym, ◌∙◌, ap}
use mathlib.Core.List.{List, ◌∷◌, ◌++◌, map}
use Prim.Native.Nat.{ℕ, zero, suc, ◌+◌, ◌<◌}
use native.Mathlib.Nat.{add-zero, zero-add}
use native.Mathlib.Numerals.{add-one}
use native.Mathlib.Omega.{arith}
use lib.ListN.{length, get_or, set, take, drop, length-set, length-map}
use lib.Seq.{take_at, paste-suc, drop-cons}
use Rattle.model.specs.Sheet.{tabulate}
pub use Rattle.model.specs.Inner.{Filling}

add_suc : (j i : ℕ) → j + suc i ≡ suc j + i
add_suc j i = omega arith

module _ {A : Type 0} (f : ℕ → A) where
  -- ---- tables

  pub tabulate_length : (j n : ℕ) → length (tabulate f j n) ≡ n
  unfolding tabulate
  tabulate_length j zero = refl
  tabulate_length j (suc n) = ap suc (tabulate_length (suc j) n)

  pub tabulate_at : (d : A) (j i n : ℕ) → i < n → get_or (tabulate f j n) i d ≡ f (j + i)
  unfolding tabulate
  tabulate_at d j i zero h = absurd (omega arith)
  tabulate_at d j zero (suc n) h = ap f (sym (add-zero j))
  tabulate_at d j (suc i) (suc n) h = tabulate_at d (suc j) i n (omega arith) ∙ ap f (sym (add_suc j i))

  pub map_tabulate : {B : Type 0} (g : A → B) (j n : ℕ) → map g (tabulate f j n) ≡ tabulate (λ i. g (f i)) j n
  unfolding tabulate
  map_tabulate g j zero = refl
  map_tabulate g j (suc n) = ap (g (f j) ∷◌) (map_tabulate g (suc j) n)

  -- a list that begins with a field of each of the first n
  module _ {B : Type 0} (g : A → B) (n : ℕ) where
    pub field_length : length (map g (tabulate f 0 n)) ≡ n
    field_length = length-map (tabulate f 0 n) g ∙ tabulate_length 0 n

    pub field_first : (rest : List B) {l : List B} → l ≡ map g (tabulate f 0 n) ++ rest → take n l ≡ map g (tabulate f 0 n)
    field_first rest e = ap (take n) e ∙ take_at _ rest n field_length

  -- ---- filling

  -- one entry more, written over the first that was left
  set_next : (j i : ℕ) (x : A) (rest : List A) → set (tabulate f j i ++ x ∷ rest) i (f (j + i)) ≡ tabulate f j (suc i) ++ rest
  unfolding tabulate
  set_next j zero x rest = ap (λ (n : ℕ). f n ∷ rest) (add-zero j)
  set_next j (suc i) x rest =
      ap (f j ∷◌) (ap (λ (n : ℕ). set (tabulate f (suc j) i ++ x ∷ rest) i (f n)) (add_suc j i) ∙ set_next (suc j) i x rest)

  pub filling_starts : (found : List A) → Filling f 0 found found
  unfolding tabulate
  filling_starts found = record { size = refl; is = refl }

  pub filling_goes_on : {i : ℕ} {found filled : List A} (d v : A) → Filling f i found filled → i < length found → v ≡ f i →
      Filling f (i + 1) found (set filled i v)
  filling_goes_on {i} {found} {filled} d v k h e =
      record {
        size = length-set filled i v ∙ k.size;
        is = rw (k.is, e, add-one, drop-cons found i d h) (rw zero-add at (set_next 0 i (get_or found i d) (drop (suc i) found)));
      }

  pub filled_up : {i n : ℕ} {found filled : List A} → Filling f i found filled → i ≡ n →
      filled ≡ tabulate f 0 n ++ drop n found
  filled_up k e = rw e at k.is

-- ---- copying

-- the first i entries of a list in the first entries of another
pub record Copied {A : Type 0} (from to₀ to : List A) (i : ℕ) : Type 0 where
  pub size : length to ≡ length to₀
  pub is : to ≡ take i from ++ drop i to₀

module _ {A : Type 0} (from to₀ : List A) where
  pub copying_goes_on : {to : List A} {i : ℕ} (d v : A) → Copied from to₀ to i → i < length from → i < length to₀ →
      v ≡ get_or from i d →
      Copied from to₀ (set to i v) (i + 1)
  copying_goes_on {to} {i} d v k h r e =
      record {
        size = length-set to i v ∙ k.size;
        is = rw (k.is, e, add-one i) (rw (zero-add i, zero-add (suc i)) at (paste-suc to₀ 0 from i d (omega arith) h));
      }
