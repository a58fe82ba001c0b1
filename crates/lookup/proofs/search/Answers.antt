-- The last of every eighth point, then of those up to the next such one or to the last.
use Rattle.std.proofs.Common.{◌≡◌, ℕ, ◌+◌, ◌-◌, List, min, arith, sym, ◌∙◌}
use Rattle.model.specs.Inner.{Taken, LastOf}
use Rattle.model.proofs.Search.{Near, taken_of, taken_of_two}
use Rattle.lookup.proofs.Areas.{size_of, near_end}
use Rattle.lookup.proofs.search.Goals as goal

taken_to : {areas : List ℕ} {n from end i x : ℕ} → Near areas n from (min (n - 1) (from + 8)) x → LastOf areas i 1 end x →
    end ≡ min (n - 1) (from + 8) → Taken areas i x
taken_to k l e = taken_of k (rw e at l)

pub returns-then-count-eq2 : goal.returns-then-count-eq2
returns-then-count-eq2 g c =
    taken_of_two c.requires.reached
    (size_of (g.P.Points.points c.args.points.now) ∙ sym c.count.ensures ∙ c.if-count-eq2.true)

pub overflow_sub-last : goal.overflow_sub-last
overflow_sub-last g c = omega (arith, size_of (g.P.Points.points c.args.points.now), c.requires.reached.inner)

pub overflow_cast-last : goal.overflow_cast-last
overflow_cast-last g c = record { fits = omega (arith, c.requires.most) }

pub last_not_above-from-requires-clause-strides : goal.last_not_above-from-requires-clause-strides
last_not_above-from-requires-clause-strides g c =
    let n = size_of (g.P.Points.points c.args.points.now) in
    record {
      some = omega arith;
      few = omega arith;
      before = omega (arith, n, c.requires.reached.inner);
      inner = omega (arith, n, c.requires.reached.inner);
      most = c.requires.most;
    }

pub overflow_add-from : goal.overflow_add-from
overflow_add-from g c =
    let l = c.last_not_above-from.ensures in
    record { fits = omega (arith, l.before, c.requires.most) }

pub last_not_above-requires-clause-strides : goal.last_not_above-requires-clause-strides
last_not_above-requires-clause-strides g c =
    let n = size_of (g.P.Points.points c.args.points.now) in
    let l = c.last_not_above-from.ensures in
    record {
      some = omega arith;
      few = omega arith;
      before = omega (arith, n, l.before);
      inner = omega (arith, n, l.before);
      most = c.requires.most;
    }

pub returns : goal.returns
returns g c =
    let near = near_end (size_of (g.P.Points.points c.args.points.now)) c.requires.most
    (rw c.count-2.ensures at c.last_not_above-from.ensures) in
    taken_to near c.last_not_above.ensures (omega arith)
