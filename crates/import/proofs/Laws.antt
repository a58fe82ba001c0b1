-- What is proved of Import.
--   wholes            points as an export has them: their areas and values are natural numbers
--   wholes_rows       the rows of an export of these are the rows of the points
--   wholes_of_passed  where an export's rows refuse nothing, it is one of these
-- Assumes nothing.
use mathlib.Core.Path.{◌≡◌, refl, sym, ◌∙◌, ap, subst}
use mathlib.Core.Bool.{Bool, true, false, true≢false}
use mathlib.Core.List.{List, [], ◌∷◌, map}
use mathlib.Core.Logic.{inl, inr}
use mathlib.Core.Option.{Option, none, some}
use Prim.Native.Nat.{ℕ, suc, ◌/◌, ◌<◌}
use native.Mathlib.Nat.{zero-add, mul-div_cancel_left, mul-mod_right}
use native.Mathlib.Omega.{arith}
use lib.Dec.{lit<}
use lib.IntN.{ℤ, pos, negsuc}
use lib.ListN.{length, get_or, length-map, get_or-map, get_or-append}
use lib.Seq.{ext_get_or}
use Rattle.model.specs.Answer.{Answer, gives, refused, row, ◌then◌, filled}
use Rattle.model.specs.Points.{Point, origin, point_at}
use Rattle.model.specs.Check.{bad_count, bad_code, bad_area, bad_value, bad_slope, point_rows, curve_rows}
use Rattle.model.proofs.Rows.{gives_injective, refused≢gives, then_first, then_rest, row_passed}
use Rattle.model.proofs.Filling.{tabulate_length, tabulate_at, field_length}
use Rattle.layout.proofs.Points.{size_of_points}
use Rattle.layout.specs.Layout as file
use Rattle.file.specs.Open.{ShapeAndCount, short_list, open_answer}
use Rattle.binary64.specs.Laws.{Exactly}
use Rattle.binary64.proofs.Values.{none≢some}
use Rattle.binary64.proofs.Laws.{whole_numbers}
use Rattle.triples.specs.Triples.{triple_size, bad_length, WholePoint, triple_at, count, whole_point, taken, exported}
use Rattle.triples.specs.Triples.{or_negative, natural, triple_rows, point_from, export_rows}
use Rattle.import.specs.Import.{points_of, import_answer}
use Rattle.import.specs.Laws.{Figures, NothingIsLost}
use Rattle.import.specs.Laws.{ImportedIsAccepted, Exports, CurveFile, count_given}
use Rattle.import.specs.Laws.{TakenAsByOpen, OnlyWhole}

-- ---- points of natural numbers

abbrev whole_of_point : Point → WholePoint
whole_of_point p = record { area = pos p.area; value = pos p.value; slope = p.slope }

abbrev exported_point : Point → Option WholePoint
exported_point p = some (whole_of_point p)

abbrev wholes : List Point → List (Option WholePoint)
wholes ps = map exported_point ps

points_of_wholes : (ps : List Point) → map point_from (wholes ps) ≡ ps
unfolding point_from natural
points_of_wholes [] = refl
points_of_wholes (p ∷ ps) = ap (p ∷◌) (points_of_wholes ps)

point_rows_of_wholes : (i : ℕ) (before : Option ℕ) (ps : List Point) → triple_rows i before (wholes ps) ≡ point_rows i before ps
unfolding triple_rows point_rows or_negative natural
point_rows_of_wholes i before [] = refl
point_rows_of_wholes i before (p ∷ ps) =
    ap (λ rest. row (bad_area before p.area) 3 i then row (bad_value p.value) 4 i then row (bad_slope p.slope) 5 i
    then rest) (point_rows_of_wholes (suc i) (some p.area) ps)

wholes_rows : (ps : List Point) (code : ℕ) → export_rows (wholes ps) code ≡ curve_rows ps code
unfolding export_rows curve_rows
wholes_rows ps code = rw (length-map ps exported_point, point_rows_of_wholes 0 none ps, points_of_wholes ps) refl

-- ---- where rows 3 and 4 refuse nothing

natural_of_passed : (bad : ℕ → Bool) (z : ℤ) → or_negative bad z ≡ false → pos (natural z) ≡ z
unfolding or_negative natural
natural_of_passed bad (pos n) e = refl
natural_of_passed bad (negsuc n) e = absurd (true≢false e)

point_of_passed : (p : WholePoint) → pos (natural p.area) ≡ p.area → pos (natural p.value) ≡ p.value →
    exported_point (point_from (some p)) ≡ some p
unfolding point_from
point_of_passed p a v = rw (a, v) refl

wholes_of_passed : (i : ℕ) (before : Option ℕ) (ps : List (Option WholePoint)) → triple_rows i before ps ≡ gives tt →
    wholes (map point_from ps) ≡ ps
unfolding triple_rows
wholes_of_passed i before [] e = refl
wholes_of_passed i before (none ∷ ps) e = absurd (refused≢gives e)
wholes_of_passed i before (some p ∷ ps) e =
    let after_3 = then_rest (row (or_negative (bad_area before) p.area) 3 i) _ e in
    let after_4 = then_rest (row (or_negative bad_value p.value) 4 i) _ after_3 in
    let after_5 = then_rest (row (bad_slope p.slope) 5 i) _ after_4 in
    let area = natural_of_passed (bad_area before) p.area (row_passed _ 3 i _ e) in
    let value = natural_of_passed bad_value p.value (row_passed _ 4 i _ after_3) in
    rw (point_of_passed p area value, wholes_of_passed (suc i) (some (natural p.area)) ps after_5) refl

-- ---- an export that is taken

record Taken (bytes : List ℕ) (code n : ℕ) : Type 0 where
  pub number : count bytes ≡ n
  pub points : wholes (points_of bytes) ≡ exported bytes
  pub accepted : curve_rows (points_of bytes) code ≡ gives tt

module _ (bytes : List ℕ) (code areas values slopes n : ℕ) (e : import_answer bytes code areas values slopes ≡ gives n) where
  taken_of : Taken bytes code n
  unfolding import_answer export_rows
  taken_of =
      let after_13 = then_rest (row (bad_length bytes) 13 0) _ e in
      let after_11 = then_rest (row (short_list (count bytes) areas values slopes) 11 0) _ after_13 in
      let rows : export_rows (exported bytes) code ≡ gives tt = then_first (export_rows (exported bytes) code) _ after_11 in
      let after_2 = then_rest (row (bad_code code) 2 0) _ (then_rest (row (bad_count _) 1 0) _ rows) in
      let points = wholes_of_passed 0 none (exported bytes) (then_first (triple_rows 0 none (exported bytes)) _ after_2) in
      record {
        number = gives_injective (then_rest (export_rows (exported bytes) code) _ after_11);
        points = points;
        accepted = sym (wholes_rows (points_of bytes) code) ∙ ap (λ ps. export_rows ps code) points ∙ rows;
      }

pub imported_is_accepted : ImportedIsAccepted
imported_is_accepted bytes code areas values slopes n e =
    let k = taken_of bytes code areas values slopes n e in
    record {
      number = sym (field_length (λ i. taken (triple_at bytes i)) point_from (count bytes) ∙ k.number);
      accepted = k.accepted;
    }

-- ---- the figures of a point that is taken

record FiguresAre (a v s : Option ℤ) (p : WholePoint) : Type 0 where
  pub area : a ≡ some p.area
  pub value : v ≡ some p.value
  pub slope : s ≡ some p.slope

figures_are : (a v s : Option ℤ) (p : WholePoint) → whole_point a v s ≡ some p → FiguresAre a v s p
unfolding whole_point
figures_are (some a) (some v) (some s) p e =
    let is : p ≡ record { area = a; value = v; slope = s } = cc in rw is (record { area = refl; value = refl; slope = refl })
figures_are (some a) (some v) none p e = absurd (none≢some e)
figures_are (some a) none s p e = absurd (none≢some e)
figures_are none v s p e = absurd (none≢some e)

taken_is : (bytes : List ℕ) (d : Option WholePoint) (i : ℕ) → i < count bytes →
    get_or (exported bytes) i d ≡ taken (triple_at bytes i)
taken_is bytes d i h =
    tabulate_at (λ i. taken (triple_at bytes i)) d 0 i (count bytes) h ∙ ap (λ j. taken (triple_at bytes j)) (zero-add i)

-- the point at an index
point_taken : {bytes : List ℕ} {code n : ℕ} → Taken bytes code n → (i : ℕ) → i < n →
    taken (triple_at bytes i) ≡ exported_point (point_at (points_of bytes) i)
point_taken {bytes} k i h =
    sym (taken_is bytes (exported_point origin) i (omega (arith, k.number)))
    ∙ ap (λ ps. get_or ps i (exported_point origin)) (sym k.points)
    ∙ get_or-map exported_point (points_of bytes) i origin

figures_of : {bytes : List ℕ} {code n : ℕ} → Taken bytes code n → (i : ℕ) → i < n →
    (let p = point_at (points_of bytes) i in Figures (triple_at bytes i) (pos p.area) (pos p.value) p.slope)
figures_of {bytes} k i h =
    let f = figures_are _ _ _ (whole_of_point (point_at (points_of bytes) i)) (point_taken k i h) in
    record {
      area_is = (whole_numbers _ _).exact f.area;
      value_is = (whole_numbers _ _).exact f.value;
      slope_is = (whole_numbers _ _).exact f.slope;
    }

-- an entry of a list after the call
entry_after : {A : Type 0} (field : Point → A) (ps : List Point) (n : ℕ) (a : Answer ℕ) (found : List A) (i : ℕ) → a ≡ gives n →
    i < length ps →
    get_or (filled a (map field ps) found) i (field origin) ≡ field (point_at ps i)
unfolding filled
entry_after field ps n a found i e h =
    rw e
    (get_or-append (map field ps) _ (field origin) i (omega (arith, length-map ps field))
    ∙ get_or-map field ps i origin)

pub nothing_is_lost : NothingIsLost
nothing_is_lost bytes code areas values slopes n e i h =
    let ps = points_of bytes in
    let inside : i < length ps = omega (arith, (imported_is_accepted bytes code _ _ _ n e).number) in
    let area = entry_after (λ p. p.area) ps n _ areas i e inside in
    let value = entry_after (λ p. p.value) ps n _ values i e inside in
    let slope = entry_after (λ p. p.slope) ps n _ slopes i e inside in
    let f = figures_of (taken_of bytes code _ _ _ n e) i h in
    record {
      area_is = subst (λ m. Exactly (triple_at bytes i).area (pos m)) (sym area) f.area_is;
      value_is = subst (λ m. Exactly (triple_at bytes i).value (pos m)) (sym value) f.value_is;
      slope_is = subst (Exactly (triple_at bytes i).slope) (sym slope) f.slope_is;
    }

pub only_whole : OnlyWhole
only_whole bytes code areas values slopes i n h k e =
    let t = taken_of bytes code areas values slopes n e in
    let f = figures_of t i (omega (arith, t.number)) in
    elim k [
      | inl area ↦ area _ f.area_is
      | inr (inl value) ↦ value _ f.value_is
      | inr (inr slope) ↦ slope _ f.slope_is
    ]

-- ---- an export of some points

-- what Open answers after its head, without the shape
without_shape : (b : Bool) (rows : Answer (Unit {0})) (r : ShapeAndCount) →
    count_given (row b 11 0 then rows then gives r) ≡ (row b 11 0 then rows then gives r.count)
unfolding row ◌then◌
without_shape true rows r = refl
without_shape false (gives u) r = refl
without_shape false (refused n i) r = refl

module _ {bytes : List ℕ} {ps : List Point} (k : Exports bytes ps) where
  as_many : count bytes ≡ length ps
  as_many = ap (λ n. n / triple_size) k.size ∙ mul-div_cancel_left (length ps) (lit< tt)

  multiple : bad_length bytes ≡ false
  unfolding bad_length
  multiple = rw (k.size, mul-mod_right triple_size (length ps)) refl

  figures_taken : (i : ℕ) → i < length ps → taken (triple_at bytes i) ≡ exported_point (point_at ps i)
  unfolding whole_point
  figures_taken i h =
      let f = k.figures i h in
      rw (
        (whole_numbers _ _).taken f.area_is,
        (whole_numbers _ _).taken f.value_is,
        (whole_numbers _ _).taken f.slope_is,
      )
      refl

  exported_is : exported bytes ≡ wholes ps
  exported_is =
      let d = exported_point origin in
      let size : length (exported bytes) ≡ length ps =
      tabulate_length (λ i. taken (triple_at bytes i)) 0 (count bytes) ∙ as_many in
      ext_get_or d (exported bytes) (wholes ps) (size ∙ sym (length-map ps exported_point)) (λ i h.
      taken_is bytes d i (omega (arith, size, as_many)) ∙ figures_taken i (omega (arith, size))
      ∙ sym (get_or-map exported_point ps i origin))

  answer_is : (code areas values slopes : ℕ) →
      import_answer bytes code areas values slopes
      ≡ (row (short_list (length ps) areas values slopes) 11 0 then curve_rows ps code then gives (length ps))
  unfolding import_answer row ◌then◌
  answer_is code areas values slopes = rw (multiple, exported_is, as_many, wholes_rows ps code) refl

  as_open : (code areas values slopes : ℕ) (curve_file : List ℕ) → CurveFile curve_file ps code →
      import_answer bytes code areas values slopes ≡ count_given (open_answer curve_file areas values slopes)
  unfolding open_answer ◌then◌
  as_open code areas values slopes curve_file f =
      let same : file.count curve_file ≡ length ps =
      sym (size_of_points curve_file) ∙ ap length f.points in
      answer_is code areas values slopes
      ∙ rw (f.head, f.points, f.shape, same)
      (sym (without_shape (short_list (length ps) areas values slopes) (curve_rows ps code)
      (record { shape = code; count = length ps })))

pub taken_as_by_open : TakenAsByOpen
taken_as_by_open bytes ps k =
    record {
      points_are = ap (map point_from) (exported_is k) ∙ points_of_wholes ps;
      answer = answer_is k;
      as_open = as_open k;
    }
