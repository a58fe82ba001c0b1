-- Between the two infinities stand the finite numbers alone.
use Rattle.binary64.proofs.Wholes.{below_infinity, not_above_infinity}
use Rattle.binary64.proofs.is_finite.Goals as goal

pub returns-then-x : goal.returns-then-x
returns-then-x c = below_infinity c.args.x c.if-x.true

pub returns-else-x : goal.returns-else-x
returns-else-x c = not_above_infinity c.args.x c.if-x.false
