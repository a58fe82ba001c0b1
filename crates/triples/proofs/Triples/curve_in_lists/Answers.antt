-- Row 1; then the rows of all points, or those of the points before one that is not taken, and row 14.
use Rattle.std.proofs.Common.{◌≡◌, ◌≤◌, ℕ, Bool, false, List, length, sym, ◌∙◌, ap, arith}
use Rattle.model.specs.Points.{points_most, points, Point}
use Rattle.model.specs.Check.{bad_count}
use Rattle.model.proofs.Rows.{count_of_row_1}
use Rattle.refusal.proofs.Results.{refused_exit}
use Rattle.rows.proofs.Passing.{code_passed}
use Rattle.triples.specs.Triples.{count, exported}
use Rattle.triples.specs.Inner.{whole_points}
use Rattle.triples.proofs.Rows.{whole_count, at_most_all}
use Rattle.triples.proofs.Rows.{refused_by_count, refused_by_code, refused_before_14, refused_by_14, points_given}
use Rattle.triples.proofs.Sizes.{exported_length}
use Rattle.refusal.proofs.Results.{answer_through}
use Rattle.triples.proofs.Triples.curve_in_lists.Goals as goal

module _ (bytes : List ℕ) where
  -- what row 1 says
  row_1 : {n : ℕ} {found bad : Bool} → n ≡ count bytes → found ≡ bad_count n → found ≡ bad → bad_count (count bytes) ≡ bad
  row_1 e f g = rw (← e) (sym f ∙ g)

  counted : {n : ℕ} {found bad : Bool} → n ≡ count bytes → found ≡ bad_count n → found ≡ bad →
      bad_count (length (exported bytes)) ≡ bad
  counted e f g = rw (exported_length bytes) (row_1 e f g)

  -- no more points are taken than there are
  few : {ps : List Point} → ps ≡ whole_points (exported bytes) → bad_count (length (exported bytes)) ≡ false →
      length ps ≤ points_most
  few e n = omega (arith, ap length e, at_most_all (exported bytes), count_of_row_1 _ n)

pub returns-then-bad_count : goal.returns-then-bad_count
returns-then-bad_count c =
    rw c.at.ensures (refused_by_count _ _ _ (counted _ c.count-n.ensures c.bad_count.ensures c.if-bad_count.true))

pub decode-whole-requires : goal.decode-whole-requires
decode-whole-requires c =
    c.requires.room (row_1 c.args.self.now.bytes.now c.count-n.ensures c.bad_count.ensures c.if-bad_count.false)

pub returns-then-count-n : goal.returns-then-count-n
returns-then-count-n c =
    let bytes = c.args.self.now.bytes.now in
    let all : whole_count (exported bytes) ≡ length (exported bytes) =
    omega (arith, ap length c.decode-whole.ensures, exported_length bytes) in
    rw c.decode-whole.ensures at
    (answer_through _ (λ p. points p.0.areas.now p.0.values.now p.0.slopes.now) c.new.result _ _ c.new.ensures)
    ∙ points_given _ _ all

pub returns-in_err-try_from : goal.returns-in_err-try_from
returns-in_err-try_from c =
    let n = counted _ c.count-n.ensures c.bad_count.ensures c.if-bad_count.false in
    refused_exit _ _ _ c.from_residual.ensures.1 ∙ refused_by_code _ _ _ n c.in_err-try_from.ensures

pub check_points-earlier-requires : goal.check_points-earlier-requires
check_points-earlier-requires c =
    let n = counted _ c.count-n.ensures c.bad_count.ensures c.if-bad_count.false in
    few _ c.decode-whole.ensures n

pub returns-in_err-earlier : goal.returns-in_err-earlier
returns-in_err-earlier c =
    let bytes = c.args.self.now.bytes.now in
    let n = counted bytes c.count-n.ensures c.bad_count.ensures c.if-bad_count.false in
    let k = code_passed c.in_ok-try_from.ensures in
    let s = ap length c.decode-whole.ensures in
    refused_exit _ _ _ c.from_residual-in_err-earlier.ensures.1
    ∙ refused_before_14 _ _ _ n k.0 (omega (arith, s, exported_length bytes, at_most_all (exported bytes)))
    (rw c.decode-whole.ensures at c.in_err-earlier.ensures)

pub overflow_cast-count : goal.overflow_cast-count
overflow_cast-count c =
    let n = counted c.args.self.now.bytes.now c.count-n.ensures c.bad_count.ensures c.if-bad_count.false in
    record { fits = omega (arith, few _ c.decode-whole.ensures n) }

pub returns : goal.returns
returns c =
    let bytes = c.args.self.now.bytes.now in
    let n = counted bytes c.count-n.ensures c.bad_count.ensures c.if-bad_count.false in
    let k = code_passed c.in_ok-try_from.ensures in
    let s = ap length c.decode-whole.ensures in
    rw (c.at-2.ensures, c.count-2.ensures, s)
    (refused_by_14 _ _ _ n k.0 (omega (arith, s, exported_length bytes, at_most_all (exported bytes)))
    (sym (rw c.decode-whole.ensures at c.in_ok-earlier.ensures)))
