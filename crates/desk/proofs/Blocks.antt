-- A list that is copied in parts.
--   copied_more   where the first entries are copied, what a copy of the next ones leaves
--   last          what a copy of all the rest leaves
-- Assumes nothing.
use mathlib.Core.Path.{◌≡◌, sym, ◌∙◌, ap}
use mathlib.Core.List.{List, ◌++◌, append_assoc}
use Prim.Native.Nat.{ℕ, ◌+◌, ◌-◌, ◌≤◌}
use native.Mathlib.Omega.{arith}
use borrow.Rule.Slice.PartMut.{put_mid}
use lib.ListN.{length, take, drop}
use lib.Seq.{length-take-le, drop-drop, take-add, take_at, drop-append-add}
use Rattle.desk_answer.specs.Inner.{copied}
use Rattle.desk.specs.Inner.{CopiedTo}

-- the first m entries are those of src: then what is from a later one on is as found
module _ (m : ℕ) (src found : List ℕ) (h : m ≤ length src) where
  abbrev begun : List ℕ
  begun = take m src ++ drop m found

  front_size : length (take m src) ≡ m
  front_size = length-take-le m src h

  drop_more : (k : ℕ) → drop (m + k) begun ≡ drop (m + k) found
  drop_more k =
      ap (λ j. drop (j + k) begun) (sym front_size) ∙ drop-append-add (take m src) (drop m found) k ∙ drop-drop k m found

  pub copied_more : (n : ℕ) → m + n ≤ length src → copied m m n src begun ≡ take (m + n) src ++ drop (m + n) found
  copied_more n l =
      let front = take_at (take m src) (drop m found) m front_size in
      rw (front, drop_more n, take-add m n src) (sym (append_assoc (take m src) (take n (drop m src)) (drop (m + n) found)))

module _ {src found dst : List ℕ} {at : ℕ} (k : CopiedTo src found dst at) where
  -- all the rest is copied
  pub last : {tail : List ℕ} → tail ≡ take (length src - at) (drop at src) →
      put_mid at (length src - at) dst tail ≡ take (length src) src ++ drop (length src) found
  last e =
      let m : ℕ = length src - at in
      let all : at + m ≡ length src = omega (arith, k.inner) in
      rw (e, drop-drop m at dst, k.is)
      (copied_more at src found k.inner m (omega (arith, k.inner)) ∙ ap (λ (j : ℕ). take j src ++ drop j found) all)
