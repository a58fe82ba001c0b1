-- Each test is one of row 1's.
use Rattle.std.proofs.Common.{le-ltb, lt-ltb}
use Rattle.model.specs.Check.{bad_count}
use Rattle.rows.proofs.bad_count.Goals as goal

pub returns-then-n-lt-POINTS_LEAST : goal.returns-then-n-lt-POINTS_LEAST
unfolding bad_count
returns-then-n-lt-POINTS_LEAST c = rw (lt-ltb _ _ c.if-n-lt-POINTS_LEAST.true)

pub returns-else-n-lt-POINTS_LEAST : goal.returns-else-n-lt-POINTS_LEAST
unfolding bad_count
returns-else-n-lt-POINTS_LEAST c = rw (le-ltb _ _ c.if-n-lt-POINTS_LEAST.false)
