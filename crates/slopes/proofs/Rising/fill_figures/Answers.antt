-- Each figure that row 5 passes fills one entry more; the first that it refuses decides.
use Rattle.std.proofs.Common.{◌≡◌, ◌+◌, ◌-◌, length, pos, sym, ◌∙◌, ap, arith}
use Rattle.model.proofs.Filling.{filled_up}
use Rattle.model.proofs.Places.{each_passes}
use Rattle.refusal.proofs.Results.{refused_exit}
use Rattle.harmonic.specs.Rule.{hundredths, figure}
use Rattle.harmonic.proofs.Chords.{slope_inside}
use Rattle.slopes.proofs.Filling.{starts, goes_on, refuses}
use Rattle.slopes.proofs.Rising.fill_figures.Goals as goal
use Rattle.slopes.proofs.Rising.fill_figures.Goals.{After-inner_figure}

pub returns-in_err-out-clause-answer : goal.returns-in_err-out-clause-answer
returns-in_err-out-clause-answer c =
    let n = c.args.self.now.climbing.counted.least in
    refused_exit _ _ _ c.from_residual.ensures.1
    ∙ refuses (starts _ _ c.args.out.now) c.first_figure-first.ensures (omega arith) c.in_err-out.ensures

pub loop-i-init : goal.loop-i-init
loop-i-init c =
    let s = starts c.args.self.now.areas.now c.args.self.now.values.now c.args.out.now in
    record { filled = goes_on s c.first_figure-first.ensures (omega arith) c.in_ok-out.ensures; before = c.chord-left.ensures }

-- ---- a turn of the loop

figure_is : (c : After-inner_figure) →
    pos c.inner_figure.result ≡ figure c.args.self.now.areas.now c.args.self.now.values.now c.loop-i.i
figure_is c =
    let i = c.loop-i.i in
    let slope =
    slope_inside c.args.self.now.climbing (λ (e : _). omega arith) i (i - 1) (omega arith) (omega arith)
    c.loop-i.invariant.before c.chord-right.ensures in
    c.inner_figure.ensures ∙ sym (ap hundredths slope)

pub returns-in_err-out-2-clause-answer : goal.returns-in_err-out-2-clause-answer
returns-in_err-out-2-clause-answer c =
    let f = figure_is (goal.at.returns-in_err-out-2-clause-answer c).After-inner_figure in
    refused_exit _ _ _ c.from_residual-in_err-out-2.ensures.1
    ∙ refuses c.loop-i.invariant.filled f (omega arith) c.in_err-out-2.ensures

pub loop-i-preserved : goal.loop-i-preserved
loop-i-preserved c =
    let f = figure_is (goal.at.loop-i-preserved c).After-inner_figure in
    let same : c.loop-i.i + 1 - 1 ≡ c.loop-i.i = omega arith in
    record {
      filled = goes_on c.loop-i.invariant.filled f (omega arith) c.in_ok-out-2.ensures;
      before = rw same c.chord-right.ensures;
    }

-- ---- the last figure

pub returns-in_err-out-3-clause-answer : goal.returns-in_err-out-3-clause-answer
returns-in_err-out-3-clause-answer c =
    let least = c.args.self.now.climbing.counted.least in
    let e : c.loop-i.i ≡ length c.args.self.now.areas.now - 1 = omega arith in
    refused_exit _ _ _ c.from_residual-in_err-out-3.ensures.1
    ∙ refuses (rw e at c.loop-i.invariant.filled) c.last_figure.ensures (omega arith) c.in_err-out-3.ensures

pub returns : goal.returns
returns c =
    let least = c.args.self.now.climbing.counted.least in
    let e : c.loop-i.i ≡ length c.args.self.now.areas.now - 1 = omega arith in
    let k = goes_on (rw e at c.loop-i.invariant.filled) c.last_figure.ensures (omega arith) c.in_ok-out-3.ensures in
    let all : length c.args.self.now.areas.now - 1 + 1 ≡ length c.args.self.now.areas.now = omega arith in
    record {
      answer = sym (each_passes _ 5 _ (rw all at k.gentle));
      list = filled_up _ k.filling all;
    }
