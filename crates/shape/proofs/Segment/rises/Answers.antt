-- The value rises, falls or stays.
use Rattle.std.proofs.Common.{sym, ◌∙◌, arith, eq-eqb, ne_eqb}
use Rattle.shape.proofs.Tests.{climbing_test, level_test, descending_shape}
use Rattle.shape.proofs.Segment.rises.Goals as goal

pub returns-then-self : goal.returns-then-self
returns-then-self c = c.not_below_0.ensures ∙ sym (climbing_test c.args.self.neighbours c.if-self.true)

pub returns-then-self-2 : goal.returns-then-self-2
returns-then-self-2 c = sym (descending_shape _ (omega arith))

pub returns-then-self-eq0 : goal.returns-then-self-eq0
returns-then-self-eq0 c =
    sym (level_test c.args.self.neighbours c.if-self-2.false ∙ rw (eq-eqb _ _ c.if-self-eq0.true))

pub returns-else-self-eq0 : goal.returns-else-self-eq0
returns-else-self-eq0 c =
    sym (level_test c.args.self.neighbours c.if-self-2.false ∙ rw (ne_eqb _ _ c.if-self-eq0.false))
