-- The word's signed number is its two's complement.
use Rattle.std.proofs.Common.{w32, to_z-of_z, ◌∙◌}
use Rattle.layout.proofs.Numbers.{signed_word}
use Rattle.layout.proofs.signed.Goals as goal

pub returns : goal.returns
returns c =
    to_z-of_z {w = w32} {z = c.cast_signed.result} (record { sfits = c.cast_signed.type_inv })
    ∙ (rw c.unsigned.ensures at (c.cast_signed.ensures ∙ signed_word c.unsigned.type_inv))
