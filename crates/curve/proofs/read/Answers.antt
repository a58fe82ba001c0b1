-- No factor of an accepted curve is out of range.
use Rattle.std.proofs.Common.{sym, w32, to_z-of_z, rules}
use Rattle.model.specs.Points.{points}
use Rattle.model.specs.Read.{read_answer}
use Rattle.model.specs.Laws.{Curve}
use Rattle.model.proofs.Answers.{given, on_lists_gives}
use Rattle.model.proofs.Laws.{factors_are_bounded}
use Rattle.curve.proofs.read.Goals as goal

pub returns-in-Ok-clause-range : goal.returns-in-Ok-clause-range
returns-in-Ok-clause-range c =
    let k = c.args in
    let r = on_lists_gives k.areas.now k.values.now k.slopes.now (λ ps. read_answer ps k.shape k.area) (sym c.in-Ok.ensures) in
    let g = given _ _ _ r.result in
    let curve : Curve = record {
      points = points k.areas.now k.values.now k.slopes.now;
      code = k.shape;
      accepted = g.accepted.none_applies;
    } in
    let b = rw g.factor at (factors_are_bounded curve k.area (record { within = g.within })) in
    rw (to_z-of_z {w = w32} {z = c.in-Ok.f} (search rules)) (b.low, b.high)
