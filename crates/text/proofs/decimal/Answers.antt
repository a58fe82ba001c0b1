-- What std prints for a number are its decimal digits.
use Rattle.std.proofs.Common.{rules}
use Rattle.text.proofs.Digits.{decimal_is}
use Rattle.text.proofs.decimal.Goals as goal

pub returns : goal.returns
returns c = search (rules, decimal_is)
