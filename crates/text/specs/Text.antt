-- Text in ASCII: words and numbers.
-- Assumes nothing.
use Rattle.std.specs.Prelude.{ℕ, zero, suc, ◌+◌, ◌/◌, ◌%◌, cond, List, [], ◌∷◌, ◌++◌, ltb, ℤ, pos, negsuc}
use Prim.Native.Char.{code}
use Prim.Native.String.{String, [] as []ˢ, ◌∷◌ as ◌∷ˢ◌}

-- the codes of a quoted text's characters
unfoldable pub ascii : String → List ℕ
ascii []ˢ = []
ascii (c ∷ˢ rest) = code c ∷ ascii rest

-- the decimal digits of n, if it has no more than k, the most significant first
unfoldable pub digits_within : ℕ → ℕ → List ℕ
digits_within zero n = []
digits_within (suc k) n = cond (ltb n 10) [] (digits_within k (n / 10)) ++ (48 + n % 10) ∷ []

-- a number from 0 on; none of 64 bits has more than 20 digits
unfoldable pub decimal : ℕ → List ℕ
decimal n = digits_within 20 n

-- a number with its sign, which only numbers below 0 show
unfoldable pub signed : ℤ → List ℕ
signed (pos n) = decimal n
signed (negsuc n) = ascii "-" ++ decimal (suc n)
