-- The products fit 32 bits.
use Rattle.std.proofs.Common.{to_z-of_z}
use Rattle.point.proofs.Figures.{slope_read}
use Rattle.shape.proofs.Figures.{gap_read, rise_read, rise_fits, e₀_fits, g_fits, e₁_fits}
use Rattle.shape.proofs.Segment.slopes.Goals as goal

pub overflow_sub-rise : goal.overflow_sub-rise
overflow_sub-rise c = let n = c.args.self.neighbours in rw (rise_read n) (rise_fits n)

pub overflow_mul-left : goal.overflow_mul-left
overflow_mul-left c = let n = c.args.self.neighbours in rw (gap_read n, slope_read n.left) (e₀_fits n)

pub overflow_mul-chord : goal.overflow_mul-chord
overflow_mul-chord c = let n = c.args.self.neighbours in rw (rise_read n, to_z-of_z (rise_fits n)) (g_fits n)

pub overflow_mul-right : goal.overflow_mul-right
overflow_mul-right c = let n = c.args.self.neighbours in rw (gap_read n, slope_read n.right) (e₁_fits n)

pub returns : goal.returns
returns c =
    let n = c.args.self.neighbours in
    record {
      left = rw (gap_read n, slope_read n.left) (to_z-of_z (e₀_fits n));
      chord = rw (rise_read n, to_z-of_z (rise_fits n)) (to_z-of_z (g_fits n));
      right = rw (gap_read n, slope_read n.right) (to_z-of_z (e₁_fits n));
    }
