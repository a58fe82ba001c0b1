-- A point is taken if each of its figures is.
--   none_of, some_of              what a figure brought into range says of the figure itself
--   no_area, no_value, no_slope   one that is not whole
--   all_taken                     all three
-- Assumes nothing.
use mathlib.Core.Path.{◌≡◌, refl, sym}
use mathlib.Core.Option.{Option, none, some}
use lib.IntN.{ℤ}
use Rattle.binary64.specs.Inner.{saturate, saturated}
use Rattle.binary64.proofs.Values.{none≢some}
use Rattle.triples.specs.Triples.{whole_point}
use Rattle.std.specs.Int.{w32, cast_unsigned}
use Rattle.triples.specs.Inner.{ranged_point, ranged}

none_of : (o : Option ℤ) → saturated o ≡ none → o ≡ none
unfolding saturated
none_of none e = refl
none_of (some z) e = absurd (none≢some (sym e))

-- o is a number that is w in range
record Ranged (o : Option ℤ) (w : ℤ) : Type 0 where
  pub z : ℤ
  pub is : o ≡ some z
  pub in_range : saturate z ≡ w

some_of : (o : Option ℤ) (w : ℤ) → saturated o ≡ some w → Ranged o w
unfolding saturated
some_of none w e = absurd (none≢some e)
some_of (some z) w e = record { z = z; is = refl; in_range = cc }

module _ (area value slope : Option ℤ) where
  pub no_area : saturated area ≡ none → none ≡ ranged (whole_point area value slope)
  unfolding whole_point ranged
  no_area e = rw (none_of area e) refl

  pub all_taken : {a v s : ℤ} → saturated area ≡ some a → saturated value ≡ some v → saturated slope ≡ some s →
      some (record { area = cast_unsigned w32 a; value = cast_unsigned w32 v; slope = s }) ≡ ranged (whole_point area value slope)
  unfolding whole_point ranged ranged_point
  all_taken e f g =
      let k = some_of area _ e in
      let l = some_of value _ f in
      let m = some_of slope _ g in
      rw (k.is, l.is, m.is, k.in_range, l.in_range, m.in_range) refl

pub no_value : (area value slope : Option ℤ) → saturated value ≡ none → none ≡ ranged (whole_point area value slope)
unfolding whole_point ranged
no_value none value slope e = refl
no_value (some a) value slope e = rw (none_of value e) refl

pub no_slope : (area value slope : Option ℤ) → saturated slope ≡ none → none ≡ ranged (whole_point area value slope)
unfolding whole_point ranged
no_slope none value slope e = refl
no_slope (some a) none slope e = refl
no_slope (some a) (some v) slope e = rw (none_of slope e) refl
