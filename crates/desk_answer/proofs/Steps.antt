-- What the steps of a desk reading say of its result.
--   by_head, by_room, by_curve, by_area    a step refuses: so does the reading, and it leaves the scratch as found
--   by_reading      all steps pass: the factor is the reading
--   located         what row 7 says where it passes: the area is inside, and the index is that of the segment read
-- Assumes nothing.
use mathlib.Core.Path.{◌≡◌, refl, sym, ◌∙◌, ap}
use mathlib.Core.Bool.{false}
use mathlib.Core.List.{List, ◌++◌}
use Prim.Native.Nat.{ℕ, ◌≤◌, ◌<◌}
use borrow.Author.Tests.{lt-ltb, le-ltb}
use lib.IntN.{ℤ}
use lib.ListN.{length, drop}
use mir.Syntax.{w32}
use mir.Val.{SFits, to_z, of_z}
use mir.Facts.{to_z-of_z}
use Rattle.std.specs.Prelude.{Result, Ok, Err, IsErrAnd}
use Rattle.model.specs.Answer.{gives, refused, row, ◌then◌, filled}
use Rattle.model.specs.Points.{Point}
use Rattle.model.specs.Check.{curve_rows}
use Rattle.model.specs.Read.{outside, segment_read, reading, used_code, factor, read_answer}
use Rattle.model.proofs.Rows.{gives_injective, then_first, then_rest, row_passed}
use Rattle.model.proofs.Answers.{then_refused, refused_first, reading_given}
use Rattle.refusal.specs.declared.Row.TheVariants.{Room}
use Rattle.refusal.specs.declared.Refusal.{Refusal}
use Rattle.refusal.specs.Refusal.{number_of}
use Rattle.refusal.proofs.Results.{refused_exit}
use Rattle.layout.specs.Layout.{shape_code, points_of}
use Rattle.layout.specs.Head.{head_rows}
use Rattle.lookup.proofs.Areas.{refused_alike}
use Rattle.desk_answer.specs.Desk.{answer_with}
use Rattle.desk_answer.specs.Inner.{Answered}

module _ (ps : List Point) (area : ℕ) {i : ℕ}
    (e : gives i ≡ (row (outside ps area) 7 0 then gives (segment_read ps area))) where
  pub inside : outside ps area ≡ false
  inside = row_passed _ 7 0 _ (sym e)

  pub index : i ≡ segment_read ps area
  index = gives_injective (sym (then_rest (row _ 7 0) _ (sym e)))

pub ruleset located = (inside, index)

module _ (room : ℕ) (bytes : List ℕ) (area scratch : ℕ) (enough : room ≤ scratch) (passed : gives tt ≡ head_rows bytes) where
  read_is : {code : ℕ} → code ≡ shape_code bytes →
      answer_with room bytes area scratch ≡ read_answer (points_of bytes) code area
  unfolding answer_with row ◌then◌
  read_is e = rw (sym passed, e, le-ltb scratch room enough)

module _ {room : ℕ} {bytes : List ℕ} {area : ℕ} {records found : List ℕ} where
  module _ {r : Result ℤ Refusal} (d : Refusal) (exit : IsErrAnd r (λ e. e ≡ d)) where
    refuses : answer_with room bytes area (length found) ≡ refused (number_of d.row) d.place →
        Answered room bytes area records found found r
    unfolding filled
    refuses e = record { answer = refused_exit _ _ _ exit ∙ sym e; scratch = rw e refl }

    pub by_head : refused (number_of d.row) d.place ≡ head_rows bytes → Answered room bytes area records found found r
    unfolding answer_with
    by_head e = refuses (then_refused (head_rows bytes) _ (sym e))

  module _ (passed : gives tt ≡ head_rows bytes) where
    pub by_room : {d : Refusal} → length found < room → d ≡ record { row = Room; place = 0 } →
        Answered room bytes area records found found (Err d)
    unfolding answer_with row ◌then◌
    by_room h e = refuses _ e (rw (sym passed, lt-ltb (length found) room h))

    module _ (enough : room ≤ length found) {code : ℕ} (coded : code ≡ shape_code bytes) where
      pub by_curve : {r : Result ℤ Refusal} (used : ℕ) (d : Refusal) → IsErrAnd r (λ e. e ≡ d) →
          refused (number_of d.row) d.place ≡ (curve_rows (points_of bytes) code then gives used) →
          Answered room bytes area records found found r
      unfolding read_answer
      by_curve used d exit e =
          let own = refused_first (curve_rows (points_of bytes) code) _ (sym e) in
          refuses d exit (read_is _ _ _ _ enough passed coded ∙ then_refused _ _ own)

      pub by_area : {r : Result ℤ Refusal} {shape : ℕ} (used : ℕ) →
          gives shape ≡ (curve_rows (points_of bytes) code then gives used) →
          (d : Refusal) → IsErrAnd r (λ e. e ≡ d) →
          refused (number_of d.row) d.place
          ≡ (row (outside (points_of bytes) area) 7 0 then gives (segment_read (points_of bytes) area)) →
          Answered room bytes area records found found r
      unfolding read_answer ◌then◌
      by_area used accepted d exit e =
          let own = then_first (curve_rows _ code) _ (sym accepted) in
          let outside = refused_alike (row (outside (points_of bytes) area) 7 0) _ _ (sym e) in
          refuses d exit (read_is _ _ _ _ enough passed coded ∙ rw own outside)

      pub by_reading : {used i : ℕ} {read : ℤ} {left : List ℕ} →
          gives used ≡ (curve_rows (points_of bytes) code then gives (used_code (points_of bytes) code)) →
          gives i ≡ (row (outside (points_of bytes) area) 7 0 then gives (segment_read (points_of bytes) area)) →
          read ≡ reading (points_of bytes) used area → SFits w32 read → left ≡ records ++ drop (length records) found →
          Answered room bytes area records found left (Ok (to_z w32 (of_z w32 read)))
      unfolding filled factor
      by_reading accepted index_is factor_is fits copied =
          let own = then_first (curve_rows _ code) _ (sym accepted) in
          let used_is = gives_injective (then_rest (curve_rows _ code) _ (sym accepted)) in
          let given = reading_given _ _ area (record { none_applies = own }) (inside _ _ index_is) in
          let e = read_is _ _ _ _ enough passed coded ∙ given in
          record { answer = ap gives (to_z-of_z fits ∙ factor_is) ∙ rw (← used_is) (sym e); scratch = rw e copied }
