-- The rows from point i on decide as those from the first.
use Rattle.std.proofs.Common.{◌≡◌, ◌≤◌}
use Rattle.std.proofs.Math.Option.{none}
use Rattle.std.specs.Prelude.{Ok, IfSome}
use Rattle.model.specs.Points.{area_most}
use Rattle.point.specs.Inner.{earlier}
use Rattle.rows.specs.Inner.{points_from}
use Rattle.rows.proofs.check_points.Given as goal

abbrev pub invariant-loop-i : goal.invariant-loop-i
invariant-loop-i g l =
    let ps = g.P.Points.points l.points in
    record {
      none_found : l.found ≡ Ok tt;
      in_limits : IfSome l.before (λ b. b ≤ area_most);
      same : points_from ps (earlier l.before) l.i ≡ points_from ps none 0;
    }
