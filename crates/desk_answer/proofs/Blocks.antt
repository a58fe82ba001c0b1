-- A copy of some bytes through a block.
--   put_copied       what a copy of xs to the entries from an index on leaves
--   through_block    what a copy through a block leaves
-- Assumes nothing.
use mathlib.Core.Path.{◌≡◌, ◌∙◌, ap}
use mathlib.Core.List.{List, [], ◌++◌, append-nil}
use Prim.Native.Nat.{ℕ, ◌+◌, ◌-◌, ◌≤◌}
use native.Mathlib.Omega.{arith}
use borrow.Rule.Slice.PartMut.{mid_of, post_of, put_mid}
use lib.ListN.{length, take, drop, length-drop, drop_of_length-le}
use lib.Seq.{length-take-le, take_all, take-length, drop-drop}
use Rattle.desk_answer.specs.Inner.{copied}

module _ (at : ℕ) (dst : List ℕ) where
  rest_is : mid_of at (length dst - at) dst ≡ drop at dst
  rest_is = take_all (length dst - at) (drop at dst) (omega (arith, length-drop at dst))

  nothing_after : post_of at (length dst - at) dst ≡ []
  nothing_after = drop_of_length-le (drop at dst) {i = length dst - at} (omega (arith, length-drop at dst))

  pub put_copied : (xs tail : List ℕ) →
      tail ≡ take (length xs) xs ++ drop (length xs) (mid_of at (length dst - at) dst) →
      put_mid at (length dst - at) dst tail ≡ take at dst ++ (xs ++ drop (at + length xs) dst)
  put_copied xs tail e =
      let whole : tail ≡ xs ++ drop (at + length xs) dst = e ∙ rw (take-length xs, rest_is, drop-drop (length xs) at dst) in
      ap (λ ys. take at dst ++ ys) (ap (λ ys. tail ++ ys) nothing_after ∙ append-nil tail ∙ whole)

-- n entries copied to a block of as many, and from there
pub through_block : (from to n : ℕ) (src dst found block tail : List ℕ) → from + n ≤ length src → length found ≡ n →
    (let part = mid_of from (from + n - from) src in block ≡ take (length part) part ++ drop (length part) found) →
    tail ≡ take (length block) block ++ drop (length block) (mid_of to (length dst - to) dst) →
    put_mid to (length dst - to) dst tail ≡ copied from to n src dst
through_block from to n src dst found block tail h size first second =
    let part : List ℕ = take n (drop from src) in
    let n_is : from + n - from ≡ n = omega arith in
    let part_size : length part ≡ n = length-take-le n (drop from src) (omega (arith, length-drop from src)) in
    let none : drop n found ≡ [] = drop_of_length-le found {i = n} (omega arith) in
    let whole : block ≡ part =
    (rw n_is at first) ∙ rw (take-length part, part_size, none) (append-nil part) in
    put_copied to dst block tail second ∙ rw (whole, part_size)
