-- The rounding of 200,000 less a value is 200,000 less the value's: 200,000 is even.
use Rattle.std.proofs.Common.{◌≡◌, ◌∙◌, arith, w32, to_z, to_z-of_z}
use Rattle.model.specs.Points.{plain}
use Rattle.model.specs.Inner.{Good, Inside}
use Rattle.point.specs.Inner.{segment_of}
use Rattle.segment.proofs.Mirrored.{plain_shape, read_inside, reading, as_it_stands, taken_off, taken_off_fits}
use Rattle.segment.proofs.Facing.factor.Goals as goal
use Rattle.segment.proofs.Facing.factor.Goals.{Joined-self, in-Rising, in-Convex}

pub rising_factor-f-requires : goal.rising_factor-f-requires
rising_factor-f-requires c = grind (arith, read_inside c.args.self.shape c.args.self.segment.neighbours c.requires)

pub convex_factor-f-requires : goal.convex_factor-f-requires
convex_factor-f-requires c = grind (arith, read_inside c.args.self.shape c.args.self.segment.neighbours c.requires)

module _ (c : Joined-self) where
  inside : (let x = c.args.self in
      Inside (Good (plain (plain_shape x.shape))) (segment_of x.segment.left x.segment.right) c.args.area)
  inside = read_inside c.args.self.shape c.args.self.segment.neighbours c.requires

  f_is : to_z w32 c.match-self.f-bits ≡ reading c.args.self.shape inside
  f_is =
      elim c.match-self.branch [
        | in-Rising w ↦ grind (arith, to_z-of_z)
        | in-Convex w ↦ grind (arith, to_z-of_z)
      ]

pub overflow_sub-result : goal.overflow_sub-result
overflow_sub-result c =
    let j = (goal.at.overflow_sub-result c).Joined-self in
    rw (f_is j) (taken_off_fits c.args.self.shape (inside j))

pub returns-in-Rising-shape : goal.returns-in-Rising-shape
returns-in-Rising-shape c =
    let j = (goal.at.returns-in-Rising-shape c).Joined-self in
    f_is j ∙ as_it_stands c.args.self.shape (inside j) c.in-Rising-shape.is

pub returns-in-Falling : goal.returns-in-Falling
returns-in-Falling c =
    let j = (goal.at.returns-in-Falling c).Joined-self in
    rw (f_is j, to_z-of_z (taken_off_fits c.args.self.shape (inside j)))
    (taken_off c.args.self.shape (inside j) c.in-Falling.is)
