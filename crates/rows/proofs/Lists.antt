-- What `Curve::of_lists` and `Curve::lists_to_read` say of three lists.
--   lent_alike, lent_points    the lists that `Lists::new` gives are equally long, and their points are those that were lent
--   with_code           what they answer: the code, or the code used
--   given, code_is      where one gives a shape, row 1 is passed, and its code is that of the lists
--   listed_accepted     the points of the lists are accepted; size_listed, count_most, as many as areas, and at most 64
--   after_rows          what comes after rows 1 to 6 decides then
--   refused_listed      where it refuses, every call on the lists that begins with these rows does
-- Assumes nothing.
use Rattle.std.proofs.Common.{◌≡◌, ℕ, ◌≤◌, false, List, sym, ◌∙◌, length, arith}
use lib.IntN.{ℤ}
use Rattle.model.specs.Answer.{Answer, gives, refused, row, ◌then◌}
use Rattle.model.specs.Points.{points_least, points_most, Point, points}
use Rattle.model.specs.Check.{lengths_differ, curve_rows, on_lists}
use Rattle.model.specs.Inner.{Accepted}
use Rattle.model.proofs.Rows.{gives_injective, then_first, then_rest, row_passed}
use Rattle.model.proofs.Accepted.{count_of}
use Rattle.model.proofs.Answers.{Result, on_lists_is, on_lists_gives, on_lists_refused, then_refused, refused_first}
use Rattle.model.proofs.Lists.{fields_of, fields_length}

module _ (areas values : List ℕ) (slopes : List ℤ) {ps : List Point}
    (e : gives ps
    ≡ (row (lengths_differ (length areas) (length values) (length slopes)) 1 0 then gives (points areas values slopes)))
  where
    pub lent_alike : lengths_differ (length areas) (length values) (length slopes) ≡ false
    lent_alike = row_passed _ 1 0 (gives (points areas values slopes)) (sym e)

    pub lent_points : ps ≡ points areas values slopes
    lent_points = sym (gives_injective (then_rest (row _ 1 0) (gives (points areas values slopes)) (sym e)))

abbrev pub with_code : ℕ → (List Point → ℕ) → List Point → Answer ℕ
with_code code used ps = curve_rows ps code then gives (used ps)

module _ (areas values : List ℕ) (slopes : List ℤ) (code : ℕ) (used : List Point → ℕ) where
  module _ {shape : ℕ} (e : gives shape ≡ on_lists areas values slopes (with_code code used)) where
    pub given : Result areas values slopes (with_code code used) shape
    given = on_lists_gives areas values slopes (with_code code used) (sym e)

    pub code_is : used (points areas values slopes) ≡ shape
    code_is = gives_injective (then_rest (curve_rows (points areas values slopes) code) _ given.result)

    pub listed_accepted : Accepted (points areas values slopes) code
    listed_accepted = record { none_applies = then_first (curve_rows (points areas values slopes) code) _ given.result }

    pub size_listed : length (points areas values slopes) ≡ length areas
    size_listed = fields_length (fields_of areas values slopes given.alike)

    pub count_least : points_least ≤ length areas
    count_least = omega (arith, size_listed, count_of listed_accepted)

    pub count_most : length areas ≤ points_most
    count_most = omega (arith, size_listed, count_of listed_accepted)

    pub after_rows : {A : Type 0} (rest : List Point → Answer A) →
        on_lists areas values slopes (λ qs. curve_rows qs code then rest qs) ≡ rest (points areas values slopes)
    unfolding ◌then◌
    after_rows rest =
        on_lists_is areas values slopes (λ qs. curve_rows qs code then rest qs) given.same_lengths
        ∙ (rw listed_accepted.none_applies)

  pub refused_listed : {A : Type 0} {n i : ℕ} (rest : List Point → Answer A) →
      refused n i ≡ on_lists areas values slopes (with_code code used) →
      refused n i ≡ on_lists areas values slopes (λ qs. curve_rows qs code then rest qs)
  refused_listed rest e =
      let ps = points areas values slopes in
      sym
      (on_lists_refused areas values slopes (with_code code used) (λ qs. curve_rows qs code then rest qs)
      (λ k. then_refused _ _ (refused_first (curve_rows ps code) _ k)) (sym e))
