-- The quotient is the figure of the rule's case.
use Rattle.std.proofs.Common.{sym}
use Rattle.harmonic.proofs.Quotients.{inner_flat, inner_figure}
use Rattle.slopes.proofs.Chord.inner_figure.Goals as goal

pub returns-then-rises-eq0 : goal.returns-then-rises-eq0
returns-then-rises-eq0 c = sym (inner_flat _ _ _ _ c.if-rises-eq0.true)

pub returns : goal.returns
returns c = sym (inner_figure _ _ _ _ c.if-rises-eq0.false)
