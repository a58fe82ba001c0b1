-- Each quotient is the figure of the rule's case.
use Rattle.std.proofs.Common.{sym}
use Rattle.harmonic.proofs.Quotients.{end_flat, far_flat, end_figure}
use Rattle.slopes.proofs.Chord.end_figure.Goals as goal

pub returns-then-self-eq0 : goal.returns-then-self-eq0
returns-then-self-eq0 c = sym (end_flat _ _ _ _ c.if-self-eq0.true)

pub returns-then-beside-eq0 : goal.returns-then-beside-eq0
returns-then-beside-eq0 c =
    let k = c.args in
    sym (far_flat k.self.rise k.self.gap k.beside.rise k.beside.gap c.if-self-eq0.false c.if-beside-eq0.true)

pub returns : goal.returns
returns c = sym (end_figure _ _ _ _ c.if-self-eq0.false c.if-beside-eq0.false)
