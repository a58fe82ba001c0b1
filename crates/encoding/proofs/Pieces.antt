-- Bytes put into a list.
--   put_put       two pieces, the second where the first ends, are one; put_next, one after the other
--   put_part      a part of a list overwritten, as `out[at..end]`
-- Assumes nothing.
use mathlib.Core.Path.{◌≡◌, sym, ◌∙◌, ap}
use mathlib.Core.List.{List, ◌++◌, append_assoc}
use Prim.Native.Nat.{ℕ, ◌+◌, ◌-◌, ◌≤◌}
use native.Mathlib.Omega.{arith}
use lib.ListN.{length, take, drop, length-append}
use lib.Seq.{length-take-le, take_at, drop_at, drop-drop}
use borrow.Rule.Slice.PartMut.{put_mid, Post-is}
use Rattle.encoding.specs.Inner.{put}

pub put_part : (at end : ℕ) (bytes found : List ℕ) {part : List ℕ} → part ≡ bytes → end ≡ at + length bytes →
    put_mid at (end - at) found part ≡ put at bytes found
put_part at end bytes found e size =
    ap (put_mid at (end - at) found) e
    ∙ ap (λ (l : List ℕ). take at found ++ (bytes ++ l)) (Post-is at end found (omega arith))
    ∙ sym (append_assoc (take at found) bytes (drop end found))
    ∙ ap (λ (k : ℕ). take at found ++ bytes ++ drop k found) size

module _ (at : ℕ) (a b found : List ℕ) (h : at ≤ length found) where
  abbrev front : List ℕ
  front = take at found ++ a

  abbrev end : ℕ
  end = at + length a

  size : length front ≡ end
  size = length-append (take at found) a ∙ ap (◌+ length a) (length-take-le at found h)

  after : drop (end + length b) (put at a found) ≡ drop (at + length (a ++ b)) found
  after =
      let sum : end + length b ≡ at + length (a ++ b) = omega (arith, length-append a b) in
      sym (drop-drop (length b) end (put at a found))
      ∙ ap (drop (length b)) (drop_at front (drop end found) end size)
      ∙ drop-drop (length b) end found
      ∙ ap (λ (k : ℕ). drop k found) sum

  pub put_put : put end b (put at a found) ≡ put at (a ++ b) found
  put_put =
      let rest = drop (at + length (a ++ b)) found in
      ap (λ (l : List ℕ). take end (put at a found) ++ b ++ l) after
      ∙ ap (λ (l : List ℕ). l ++ b ++ rest) (take_at front (drop end found) end size)
      ∙ ap (◌++ rest) (append_assoc (take at found) a b)

pub put_next : (at from : ℕ) (a b found : List ℕ) {one two : List ℕ} → at ≤ length found →
    one ≡ put at a found → from ≡ at + length a → two ≡ put from b one →
    two ≡ put at (a ++ b) found
put_next at from a b found h e start k =
    k ∙ ap (put from b) e ∙ ap (λ (n : ℕ). put n b (put at a found)) start ∙ put_put at a b found h
