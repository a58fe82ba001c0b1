-- The search for the segment that an area takes: among every eighth area, then among those from there on.
--   Looking                        the last so far, and the next to be looked at
--   looked                         a loop that looked at one in each turn
--   Near, near_next, near_last     where the second search ends
--   taken_of                       what it finds; taken_of_two, of two areas the first
-- Assumes nothing.
use mathlib.Core.Path.{◌≡◌}
use mathlib.Core.List.{List}
use mathlib.Core.Logic.{◌⊎◌, inl, inr}
use Prim.Native.Nat.{ℕ, suc, ◌+◌, ◌-◌, ◌≤◌, ◌<◌}
use native.Mathlib.Numerals.{add-one}
use native.Mathlib.Omega.{arith}
use lib.ListN.{length, get_or}
use Rattle.model.specs.Points.{points_most}
use Rattle.model.specs.Inner.{Reached, Taken, Strides, LastOf}

pub record Looking (areas : List ℕ) (step end x last i : ℕ) : Type 0 where
  pub reached : Reached areas last x
  pub before : last < end
  pub high : (x < get_or areas (last + step) 0) ⊎ (last + step ≡ i)

module _ {areas : List ℕ} {step end x : ℕ} where
  pub looked : {last i : ℕ} → Looking areas step end x last i → end ≤ i → LastOf areas last step end x
  looked k h =
      record { reached = k.reached; before = k.before; high = elim k.high [ inl l ↦ inl l | inr e ↦ inr (omega arith) ] }

-- the area at `end` is above the area read, or is the last of the n areas
pub record Near (areas : List ℕ) (n from end x : ℕ) : Type 0 where
  pub size : length areas ≡ n
  pub strides : Strides n from 1 end
  pub high : (x < get_or areas end 0) ⊎ (end + 1 ≡ n)

module _ {areas : List ℕ} {n from x : ℕ} (size : length areas ≡ n) (most : n ≤ points_most) (l : LastOf areas from 8 (n - 1) x)
  where
    pub near_next : from + 8 < n - 1 → Near areas n from (from + 8) x
    near_next h =
        record {
          size = size;
          strides = record { some = omega arith; few = omega arith; before = omega arith; inner = omega arith; most = most };
          high = elim l.high [ inl k ↦ inl k | inr e ↦ absurd (omega arith) ];
        }

    pub near_last : Near areas n from (n - 1) x
    near_last =
        let inner = l.reached.inner in
        record {
          size = size;
          strides = record { some = omega arith; few = omega arith; before = l.before; inner = omega arith; most = most };
          high = inr (omega arith);
        }

pub taken_of : {areas : List ℕ} {n from end i x : ℕ} → Near areas n from end x → LastOf areas i 1 end x → Taken areas i x
taken_of {end = end} {i = i} k l =
    record {
      reached = l.reached;
      high = elim l.high [
        | inl h ↦ inl (rw add-one at h)
        | inr e ↦
            let next : end ≡ suc i = (let b = l.before in omega arith) in
            elim k.high [ inl h ↦ inl (rw next at h) | inr m ↦ inr (omega arith) ]
      ];
    }

pub taken_of_two : {areas : List ℕ} {x : ℕ} → Reached areas 0 x → length areas ≡ 2 → Taken areas 0 x
taken_of_two r e = record { reached = r; high = inr (omega arith) }
