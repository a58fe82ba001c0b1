-- Numbers as text.
-- Assumes nothing.
use Rattle.std.specs.Prelude.{◌≡◌, pos, neg_ℤ}
use Rattle.text.specs.Text.{ascii, decimal, signed}

abbrev pub NumberExamples : Type 0
NumberExamples =
    (decimal 0 ≡ ascii "0") × (decimal 9 ≡ ascii "9") × (decimal 10 ≡ ascii "10") × (decimal 4294967295 ≡ ascii "4294967295")
    × (signed (pos 10200) ≡ ascii "10200") × (signed (neg_ℤ (pos 1)) ≡ ascii "-1") × (signed (pos 0) ≡ ascii "0")
