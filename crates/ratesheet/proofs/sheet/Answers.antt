-- The bytes that came are the first 776 of the reader's, and those decide.
use Rattle.std.proofs.Common.{◌≡◌, ◌∙◌, ap, IfSome, List, ℕ, take}
use Rattle.std.specs.Prelude.{Option, Some, None}
use Rattle.sheet_text.specs.SheetText.{sheet_text}
use Rattle.sheet_text.proofs.Laws.{first_bytes_decide}
use Rattle.ratesheet.proofs.sheet.Goals as goal

decided : (known : Option (List ℕ)) (came : List ℕ) → IfSome known (λ bytes. came ≡ take 776 bytes) →
    IfSome known (λ bytes. sheet_text came ≡ sheet_text bytes)
decided None came h = tt
decided (Some bytes) came h = ap sheet_text h ∙ first_bytes_decide bytes

pub returns : goal.returns
returns g c = rw c.write_text.ensures (decided _ _ c.in_ok-n.ensures.bytes)
