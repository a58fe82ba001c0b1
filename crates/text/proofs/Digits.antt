-- The decimal digits are those that std prints.
--   decimal_is, signed_is    std's text of a number is that of the definitions; below_0, by its sign and its size
--   none_yet                 at most 10 digits, with nothing after the 10 entries of a buffer, are the number's text
-- Assumes nothing.
use Rattle.std.proofs.Common.{◌≡◌, sym, ◌∙◌, ap, cond, ltb, lt-ltb, rules, arith}
use Rattle.std.proofs.Common.{ℕ, zero, suc, ◌+◌, ◌/◌, ◌%◌, ◌^◌, ◌≤◌, ◌<◌, ℤ, pos, negsuc, nat_abs, ◌<ℤ◌}
use Rattle.std.proofs.Common.{List, [], ◌∷◌, ◌++◌, append-nil, length, drop}
use Rattle.std.proofs.lemmas.Fmt.{AppendsLastDigit, decimal_from_appends, length-decimal-le}
use Rattle.std.proofs.lemmas.List.{drop_all}
use Rattle.std.proofs.Math.Nat.{pow-succ'}
use Rattle.std.specs.Fmt as std
use lib.Dec.{ltb→lt}
use lib.Signed.{mag}
use Rattle.text.specs.Text.{ascii, digits_within, decimal, signed}

appends : AppendsLastDigit digits_within
unfolding digits_within
appends = search rules

pub decimal_is : (n : ℕ) → n < 2 ^ 64 → std.decimal n ≡ decimal n
unfolding decimal
decimal_is n small = search (rules, decimal_from_appends digits_within appends 20, length-decimal-le 20)

pub signed_is : (z : ℤ) → mag z < 2 ^ 63 → std.signed_decimal z ≡ signed z
unfolding signed ascii
signed_is (pos n) small = decimal_is n (omega arith)
signed_is (negsuc n) small = ap (λ ds. 45 ∷ ds) (decimal_is (suc n) (omega arith))

-- a number below 0 is a minus sign and its size (the edit plus_for_minus is held to it)
pub below_0 : (z : ℤ) → z <ℤ pos 0 → nat_abs z < 2 ^ 63 → ([] ++ 45 ∷ []) ++ std.decimal (nat_abs z) ≡ signed z
unfolding signed ascii
below_0 (pos n) low small = absurd (omega (arith, ltb→lt n 0 low.lt))
below_0 (negsuc n) low small = ap (λ ds. 45 ∷ ds) (decimal_is (suc n) (omega arith))

-- ---- a buffer of 10 digits

-- a number has as many digits as it has, however many it may have
room : (k m n : ℕ) → 0 < k → k ≤ m → n < 10 ^ k → digits_within m n ≡ digits_within k n
unfolding digits_within
room zero m n some few small = absurd (omega arith)
room (suc k) zero n some few small = absurd (omega arith)
room (suc zero) (suc m) n some few small = rw (lt-ltb n 10 (omega arith))
room (suc (suc k)) (suc m) n some few small =
    ap (λ (ds : List ℕ). cond (ltb n 10) [] ds ++ (48 + n % 10) ∷ [])
    (room (suc k) m (n / 10) (omega arith) (omega arith) (omega (arith, pow-succ' 10 (suc k))))

pub none_yet : (n : ℕ) (text : List ℕ) → length text ≡ 10 → n < 10 ^ 10 → digits_within 10 n ++ drop 10 text ≡ decimal n
unfolding decimal
none_yet n text e small =
    let none : drop 10 text ≡ [] = drop_all 10 text (omega arith) in
    rw none (append-nil _ ∙ sym (room 10 _ n (omega arith) (omega arith) small))
