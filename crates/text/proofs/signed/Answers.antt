-- What std prints for a number are its sign and its decimal digits.
use Rattle.std.proofs.Common.{rules}
use Rattle.text.proofs.Digits.{signed_is}
use Rattle.text.proofs.signed.Goals as goal

pub returns : goal.returns
returns c = search (rules, signed_is)
