-- The first i figures are in the first i entries, none of them is too steep, and `left` is the chord before point i.
use Rattle.std.proofs.Common.{◌-◌}
use Rattle.harmonic.specs.Inner.{ChordAt}
use Rattle.slopes.specs.Inner.{chord_of}
use Rattle.slopes.proofs.Filling.{Filled}
use Rattle.slopes.proofs.Rising.fill_figures.Given as goal

abbrev pub invariant-loop-i : goal.invariant-loop-i
invariant-loop-i l =
    let areas = l.self.areas.now in
    let values = l.self.values.now in
    record {
      filled : Filled areas values l.fn.out l.out l.i;
      before : ChordAt areas values (l.i - 1) (chord_of l.left.rise l.left.gap);
    }
