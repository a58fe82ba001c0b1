-- The chords that are read are those of the rule's case.
use Rattle.std.proofs.Common.{refl, sym, ◌∙◌, ap}
use Rattle.harmonic.specs.Rule.{hundredths}
use Rattle.harmonic.proofs.Quotients.{chord_figure}
use Rattle.harmonic.proofs.Chords.{slope_of_two, slope_at_first}
use Rattle.slopes.proofs.Rising.first_figure.Goals as goal

pub returns-then-self-eq2 : goal.returns-then-self-eq2
returns-then-self-eq2 c =
    sym (ap hundredths (slope_of_two c.args.self.now.climbing 0 c.if-self-eq2.true c.chord-own.ensures) ∙ chord_figure _ _)

pub returns : goal.returns
returns c =
    let slope = slope_at_first c.args.self.now.climbing c.if-self-eq2.false 0 refl c.chord-own.ensures c.chord.ensures in
    c.end_figure.ensures ∙ sym (ap hundredths slope)
