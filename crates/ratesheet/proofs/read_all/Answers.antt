-- What a turn reads stands behind what came before it.
use Rattle.std.proofs.Common.{◌≡◌, ◌∙◌, ◌+◌, ◌≤◌, ℕ, List, ◌++◌, ap, sym, rules, length, take, length-take-le}
use Rattle.std.proofs.KnownBytes.{Consumes-trans}
use borrow.Rule.Slice.PartMut.{put_mid, post_of}
use lib.Seq.{take-append-add, take-append-le}
use Rattle.ratesheet.proofs.read_all.Goals as goal

-- `part` was written over k places from n on, and its first m count
joined : (n k m : ℕ) (buf part : List ℕ) → n ≤ length buf → m ≤ length part →
    take (n + m) (put_mid n k buf part) ≡ take n buf ++ take m part
joined n k m buf part inside fits =
    let front = take n buf in
    let behind = part ++ post_of n k buf in
    ap (λ size. take (size + m) (front ++ behind)) (sym (length-take-le n buf inside))
    ∙ take-append-add front behind m ∙ ap (λ l. front ++ l) (take-append-le m part (post_of n k buf) fits)

pub loop-n-preserved : goal.loop-n-preserved
loop-n-preserved g c =
    let (inside, before) = c.loop-n.invariant in
    let read = c.in_ok-more.ensures in
    let more = Consumes-trans _ _ _ _ _ before read.bytes.0 in
    (search rules, rw (joined _ _ _ c.loop-n.buf c.read.new.buf inside read.bound.0) more)
