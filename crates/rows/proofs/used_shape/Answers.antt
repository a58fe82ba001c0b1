-- The test is that of `used_code`, and an accepted curve is accepted under the code used.
use Rattle.std.proofs.Common.{◌≡◌, ◌&&◌, eqb, refl, ◌∙◌, sym, inl, inr}
use Rattle.model.specs.Points.{segments}
use Rattle.model.specs.Read.{all_convex, used_code}
use Rattle.model.proofs.AsRead.{used_accepted}
use Rattle.shape.specs.Codes.{code_of}
use Rattle.rows.proofs.Passing.{accepted, accepts_of, limited_of}
use Rattle.rows.proofs.used_shape.Goals as goal
use Rattle.rows.proofs.used_shape.Goals.{Joined-shape, Then-convex_first, in-Rising, in-Convex}

pub all_convex-convex_first-requires : goal.all_convex-convex_first-requires
all_convex-convex_first-requires g c = limited_of _ _ c.requires

test_is : (g : _) (c : Joined-shape g) →
    c.match-shape.convex_first
    ≡ (eqb (code_of c.args.shape) 1 && all_convex (segments (g.P.Points.points c.args.points.now)))
test_is g c = elim c.match-shape.branch [
  | in-Rising w ↦ rw (w.in-Rising.is, w.convex_first-is) w.all_convex-convex_first.ensures
  | in-Convex w ↦
      elim w.in-Convex.is [
        | inl e ↦ rw (e, w.convex_first-is) refl
        | inr e ↦ elim e [ inl f ↦ rw (f, w.convex_first-is) refl | inr f ↦ rw (f, w.convex_first-is) refl ]
      ]
]

code_is : (g : _) (c : Then-convex_first g) → used_code (g.P.Points.points c.args.points.now) (code_of c.args.shape) ≡ 2
unfolding used_code
code_is g c = rw (sym (test_is g c.before) ∙ c.if-convex_first.true) refl

pub returns-then-convex_first-clause-code : goal.returns-then-convex_first-clause-code
returns-then-convex_first-clause-code g c = sym (code_is g c)

pub returns-then-convex_first-clause-accepted : goal.returns-then-convex_first-clause-accepted
returns-then-convex_first-clause-accepted g c =
    let k = rw (code_is g c) at (used_accepted (accepted _ _ c.requires)) in
    accepts_of _ 2 k.none_applies

pub returns-clause-code : goal.returns-clause-code
unfolding used_code
returns-clause-code g c =
    let j = (goal.at.returns-clause-code g c).Joined-shape in
    rw (sym (test_is g j) ∙ c.if-convex_first.false) refl
