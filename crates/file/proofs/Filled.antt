-- A lent list after a call.
--   after_result      a call that gives a result: what it writes, and the entries after it as found
--   after_refusal     a call that refuses: all as found
-- Assumes nothing.
use Rattle.std.proofs.Common.{◌≡◌, ℕ, List, ◌++◌, length, drop}
use Rattle.model.specs.Answer.{Answer, gives, refused, filled}

module _ {A B : Type 0} {a : Answer A} where
  pub after_result : {x : A} {list written : List B} (found : List B) → a ≡ gives x → list ≡ written →
      filled a list found ≡ written ++ drop (length written) found
  unfolding filled
  after_result found e k = rw (e, k)

  pub after_refusal : {n i : ℕ} (written : List B) {found : List B} → a ≡ refused n i → found ≡ filled a written found
  unfolding filled
  after_refusal written e = rw e
