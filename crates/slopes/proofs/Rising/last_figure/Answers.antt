-- The chords that are read are those of the rule's case.
use Rattle.std.proofs.Common.{sym, ◌∙◌, ap, arith, ◌-◌, length}
use Rattle.harmonic.specs.Rule.{hundredths}
use Rattle.harmonic.proofs.Chords.{is_chord, slope_of_two, slope_at_last}
use Rattle.slopes.proofs.Rising.last_figure.Goals as goal

pub returns-then-n-eq2 : goal.returns-then-n-eq2
returns-then-n-eq2 c =
    let k = c.args.self.now.climbing in
    let e = c.if-n-eq2.true in
    let own = is_chord k 0 (omega arith) in
    c.requires ∙ ap hundredths (slope_of_two k 0 e own ∙ sym (slope_of_two k _ e own))

pub returns : goal.returns
returns c =
    let k = c.args.self.now.climbing in
    let n = length c.args.self.now.areas.now in
    let slope =
    slope_at_last k c.if-n-eq2.false (n - 1) (n - 3) (n - 2) (omega arith) (omega arith) (omega arith)
    c.chord.ensures c.chord-2.ensures in
    c.end_figure.ensures ∙ sym (ap hundredths slope)
