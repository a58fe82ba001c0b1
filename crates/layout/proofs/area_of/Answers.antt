-- The area is the first number of the record.
use Rattle.layout.specs.Layout.{record_at}
use Rattle.layout.proofs.area_of.Goals as goal

pub returns : goal.returns
unfolding record_at
returns c = c.unsigned.ensures
