-- The first row that applies decides.
use Rattle.std.proofs.Common.{◌≡◌, true, pos, sym, ◌∙◌, to_z-of_z, w32, to_z, of_z, rules, le-ltb, lt-ltb}
use lib.Signed.{lt_z}
use Rattle.model.specs.Answer.{row, ◌then◌}
use Rattle.model.specs.Points.{value_most, slope_most}
use Rattle.model.specs.Check.{bad_value, bad_slope, point_rows}
use Rattle.point.proofs.Point.check.Goals as goal

pub returns-then-bad_area : goal.returns-then-bad_area
unfolding point_rows row ◌then◌
returns-then-bad_area c i = rw (sym c.bad_area.ensures ∙ c.if-bad_area.true)

pub returns-then-self-gt-VALUE_MOST : goal.returns-then-self-gt-VALUE_MOST
unfolding point_rows row ◌then◌ bad_value
returns-then-self-gt-VALUE_MOST c i =
    rw (sym c.bad_area.ensures ∙ c.if-bad_area.false, lt-ltb value_most _ c.if-self-gt-VALUE_MOST.true)

pub returns-then-self-lt-SLOPE_LEAST : goal.returns-then-self-lt-SLOPE_LEAST
unfolding point_rows row ◌then◌ bad_value bad_slope
returns-then-self-lt-SLOPE_LEAST c i =
    let slope : to_z w32 (of_z w32 c.args.self.slope) ≡ c.args.self.slope = to_z-of_z {w = w32} (search rules) in
    rw (
      sym c.bad_area.ensures ∙ c.if-bad_area.false,
      le-ltb _ _ c.if-self-gt-VALUE_MOST.false,
      rw slope at c.if-self-lt-SLOPE_LEAST.true,
    )

pub returns-then-self-gt-SLOPE_MOST : goal.returns-then-self-gt-SLOPE_MOST
unfolding point_rows row ◌then◌ bad_value bad_slope
returns-then-self-gt-SLOPE_MOST c i =
    let slope : to_z w32 (of_z w32 c.args.self.slope) ≡ c.args.self.slope = to_z-of_z {w = w32} (search rules) in
    let steep : lt_z (pos slope_most) c.args.self.slope ≡ true = rw slope at c.if-self-gt-SLOPE_MOST.true in
    rw (
      sym c.bad_area.ensures ∙ c.if-bad_area.false,
      le-ltb _ _ c.if-self-gt-VALUE_MOST.false,
      rw slope at c.if-self-lt-SLOPE_LEAST.false,
      steep,
    )

pub returns : goal.returns
unfolding point_rows row ◌then◌ bad_value bad_slope
returns c i =
    let slope : to_z w32 (of_z w32 c.args.self.slope) ≡ c.args.self.slope = to_z-of_z {w = w32} (search rules) in
    rw (
      sym c.bad_area.ensures ∙ c.if-bad_area.false,
      le-ltb _ _ c.if-self-gt-VALUE_MOST.false,
      rw slope at c.if-self-lt-SLOPE_LEAST.false,
      rw slope at c.if-self-gt-SLOPE_MOST.false,
    )
