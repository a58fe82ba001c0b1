-- Row 3 by a difference that may wrap.
--   bad_area_of_large    an area above the largest is bad, whatever is before it
--   wrapped_gap_test     one test of the wrapped difference is both tests of the gap
-- Assumes nothing.
use Rattle.std.proofs.Common.{◌≡◌, ℕ, ◌+◌, ◌-◌, ◌%◌, ◌^◌, ◌<◌, ◌≤◌, true, ◌||◌, ltb}
use Rattle.std.proofs.Common.{leb, inl, inr, arith, le→leb, ltb→lt, lt→ltb, leb→le, lt-ltb, le-leb}
use mathlib.Core.Option.{Option, none, some}
use Rattle.exact.proofs.Tests.{same_test, compare}
use Rattle.model.specs.Points.{area_most, gap_most}
use Rattle.model.specs.Check.{bad_area}

pub bad_area_of_large : (before : Option ℕ) (area : ℕ) → area_most < area → bad_area before area ≡ true
unfolding bad_area
bad_area_of_large none area h = lt-ltb area_most area h
bad_area_of_large (some before) area h = rw (lt-ltb area_most area h)

-- a difference of 32 bits that wraps is too large
pub wrapped_gap_test : {before area : ℕ} → before ≤ area_most → area ≤ area_most →
    leb gap_most ((area + (2 ^ 32 - (before + 1))) % 2 ^ 32) ≡ (leb area before || ltb (before + gap_most) area)
wrapped_gap_test {before} {area} h k =
    let r = (area + (2 ^ 32 - (before + 1))) % 2 ^ 32 in
    elim (compare area before) [
      | inl (m, t) ↦ rw (t, le-leb gap_most r (omega arith))
      | inr (m, t) ↦
          rw t
          (same_test (leb gap_most r) (ltb (before + gap_most) area)
          (λ s. lt→ltb (before + gap_most) area (omega (arith, leb→le gap_most r s)))
          (λ s. le→leb gap_most r (omega (arith, ltb→lt (before + gap_most) area s))))
    ]
