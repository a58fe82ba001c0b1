-- Document 01, "The words of the third demand": a factor read is one that Read, Pair, Sheet or a desk reading gives.
-- Assumes nothing.
use Rattle.std.specs.Prelude.{ℕ, ◌<◌, ◌≡◌, List, ℤ, pos, neg_ℤ, length, get_or, ◌≤ℤ◌}
use Rattle.model.specs.Answer.{Answer, gives}
use Rattle.model.specs.Check.{on_lists_of}
use Rattle.model.specs.Laws.{Curve}
use Rattle.model.specs.Read.{read_answer}
use Rattle.model.specs.Sheet.{entry_area, sheet_answer, sheet_list}
use Rattle.layout.specs.Layout.{shape_code, points_of}
use Rattle.layout.specs.Head.{head_rows}
use Rattle.desk_answer.specs.Desk.{desk_answer, desk_answer_two, desk_number}
use Rattle.pair.specs.Pair.{Factors, pair_answer}

-- a file with the curve's points and code
pub record FileOf (c : Curve) (bytes : List ℕ) : Type 0 where
  pub head : head_rows bytes ≡ gives tt
  pub points : points_of bytes ≡ c.points
  pub code : shape_code bytes ≡ c.code

-- the calls on the curve's lists and code
abbrev pub read_of : Curve → ℕ → Answer ℤ
read_of c x = on_lists_of c.points (λ ps. read_answer ps c.code x)

abbrev pub pair_of : Curve → ℕ → ℕ → Answer Factors
pair_of c form plan = on_lists_of c.points (λ ps. pair_answer ps c.code form plan)

abbrev pub sheet_of : Curve → ℕ → ℕ → ℕ → Answer ℕ
sheet_of c start step entries = on_lists_of c.points (λ ps. sheet_answer ps c.code start step entries)

-- the list after the sheet's call
abbrev pub list_of : Curve → ℕ → ℕ → List ℤ → List ℤ
list_of c start step out = sheet_list c.points c.code start step (sheet_of c start step (length out)) out

-- the factor f is read at the area x of the curve; the desk's number is a factor unless it is below −1,000,000
pub data FactorRead (c : Curve) : ℕ → ℤ → Type 0 where
  by_read : (x : ℕ) (f : ℤ) → read_of c x ≡ gives f → FactorRead c x f
  by_pair_form : (form plan : ℕ) (r : Factors) → pair_of c form plan ≡ gives r → FactorRead c form r.form
  by_pair_plan : (form plan : ℕ) (r : Factors) → pair_of c form plan ≡ gives r → FactorRead c plan r.plan
  by_sheet : (start step : ℕ) (out : List ℤ) (n index : ℕ) → sheet_of c start step (length out) ≡ gives n → index < n →
      FactorRead c (entry_area start step index) (get_or (list_of c start step out) index (pos 0))
  by_desk : (bytes : List ℕ) (x scratch : ℕ) (f : ℤ) → FileOf c bytes →
      desk_number (desk_answer bytes x scratch) ≡ f → neg_ℤ (pos 1000000) ≤ℤ f → FactorRead c x f
  -- document 02, item 5
  by_desk_two : (bytes : List ℕ) (x scratch : ℕ) (f : ℤ) → FileOf c bytes →
      desk_number (desk_answer_two bytes x scratch) ≡ f → neg_ℤ (pos 1000000) ≤ℤ f → FactorRead c x f
