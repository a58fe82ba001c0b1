-- The last segment, or one whose right area is above the area.
use Rattle.std.proofs.Common.{◌+◌, inl, add-one, arith, ltb-true, ltb-false}
use Rattle.lookup.proofs.Areas.{size_of, area_at}
use Rattle.lookup.proofs.takes.Goals as goal

pub returns-else-count-i-eq2 : goal.returns-else-count-i-eq2
returns-else-count-i-eq2 g c =
    let ps = g.P.Points.points c.args.points.now in
    let next = area_at ps (c.args.i + 1) in
    rw (c.area.ensures, ← next, add-one)
    (record {
      yes = λ e. record { reached = c.requires; high = inl (ltb-true _ _ e) };
      no = λ e. record { inner = (let n = c.requires.inner in omega (arith, size_of ps)); low = ltb-false _ _ e };
    })
