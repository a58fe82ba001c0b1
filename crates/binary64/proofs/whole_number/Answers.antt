-- A number that x is equal to it is.
use Rattle.std.proofs.Common.{w32, SFits, to_z-of_z}
use Rattle.binary64.proofs.Wholes.{found}
use Rattle.binary64.proofs.whole_number.Goals as goal

pub returns-then-found : goal.returns-then-found
returns-then-found c =
    let z = c.cast_signed-z in
    let fits : SFits w32 z.result = record { sfits = z.type_inv } in
    rw (to_z-of_z {w = w32} {z = z.result} fits)
    (found z.result c.args.x fits (rw (c.from.ensures, to_z-of_z {w = w32} {z = z.result} fits) at c.if-found.true))
