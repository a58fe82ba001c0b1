-- Document 02, item 7: what is proved of Import. Proofs: proofs/Laws.antt.
-- Assumes nothing.
use Rattle.std.specs.Prelude.{ℕ, ◌*◌, ◌<◌, ◌≡◌, List, map, ◌⊎◌, ℤ, pos, length, get_or, Float}
use Rattle.model.specs.Answer.{Answer, gives, refused, row, ◌then◌, filled}
use Rattle.model.specs.Points.{Point, point_at}
use Rattle.model.specs.Check.{curve_rows}
use Rattle.layout.specs.Layout as file
use Rattle.layout.specs.Head.{head_rows}
use Rattle.file.specs.Open.{ShapeAndCount, short_list, open_answer}
use Rattle.binary64.specs.Laws.{Exactly}
use Rattle.triples.specs.Triples.{triple_size, Triple, triple_at, count}
use Rattle.import.specs.Import.{points_of, import_answer}

-- Import: its answer, and the lists after it
module _ (bytes : List ℕ) (code : ℕ) (areas values : List ℕ) (slopes : List ℤ) where
  abbrev pub import_into : Answer ℕ
  import_into = import_answer bytes code (length areas) (length values) (length slopes)

  abbrev pub areas_after : List ℕ
  areas_after = filled import_into (map (λ p. p.area) (points_of bytes)) areas

  abbrev pub values_after : List ℕ
  values_after = filled import_into (map (λ p. p.value) (points_of bytes)) values

  abbrev pub slopes_after : List ℤ
  slopes_after = filled import_into (map (λ p. p.slope) (points_of bytes)) slopes

-- the figures of a triple are exactly these whole numbers
pub record Figures (t : Triple) (area value slope : ℤ) : Type 0 where
  pub area_is : Exactly t.area area
  pub value_is : Exactly t.value value
  pub slope_is : Exactly t.slope slope

-- nothing is lost: what is taken is, in the lists, exactly what the package wrote
abbrev pub NothingIsLost : Type 0
NothingIsLost =
    (bytes : List ℕ) (code : ℕ) (areas values : List ℕ) (slopes : List ℤ) (n : ℕ) →
    import_into bytes code areas values slopes ≡ gives n →
    (i : ℕ) → i < n →
    Figures (triple_at bytes i) (pos (get_or (areas_after bytes code areas values slopes) i 0))
    (pos (get_or (values_after bytes code areas values slopes) i 0))
    (get_or (slopes_after bytes code areas values slopes) i (pos 0))

-- what is taken is an accepted curve, and the count is that of its points
pub record AcceptedCurve (ps : List Point) (code n : ℕ) : Type 0 where
  pub number : n ≡ length ps
  pub accepted : curve_rows ps code ≡ gives tt

abbrev pub ImportedIsAccepted : Type 0
ImportedIsAccepted =
    (bytes : List ℕ) (code areas values slopes n : ℕ) → import_answer bytes code areas values slopes ≡ gives n →
    AcceptedCurve (points_of bytes) code n

-- the bytes are an export of the points: 24 bytes a point, whose figures are exactly the point's
pub record Exports (bytes : List ℕ) (ps : List Point) : Type 0 where
  pub size : length bytes ≡ triple_size * length ps
  pub figures : (i : ℕ) → i < length ps →
      (let p = point_at ps i in Figures (triple_at bytes i) (pos p.area) (pos p.value) p.slope)

-- a file of the points and the code, whose head passes
pub record CurveFile (bytes : List ℕ) (ps : List Point) (code : ℕ) : Type 0 where
  pub head : head_rows bytes ≡ gives tt
  pub points : file.points_of bytes ≡ ps
  pub shape : file.shape_code bytes ≡ code

-- Open's answer without the shape, which Import's caller names
abbrev pub count_given : Answer ShapeAndCount → Answer ℕ
count_given (gives r) = gives r.count
count_given (refused number place) = refused number place

-- an export of points is taken as Open takes these points from a file
pub record AsByOpen (bytes : List ℕ) (ps : List Point) : Type 0 where
  pub points_are : points_of bytes ≡ ps
  -- what `open_answer` has after its head
  pub answer : (code areas values slopes : ℕ) →
      import_answer bytes code areas values slopes
      ≡ (row (short_list (length ps) areas values slopes) 11 0 then curve_rows ps code then gives (length ps))
  -- so Import answers as Open does with a curve file of the same points and code
  pub as_open : (code areas values slopes : ℕ) (curve_file : List ℕ) → CurveFile curve_file ps code →
      import_answer bytes code areas values slopes ≡ count_given (open_answer curve_file areas values slopes)

abbrev pub TakenAsByOpen : Type 0
TakenAsByOpen = (bytes : List ℕ) (ps : List Point) → Exports bytes ps → AsByOpen bytes ps

-- the exact value of x, if it has one, is no whole number
abbrev pub NotWhole : Float → Type 0
NotWhole x = (z : ℤ) → Exactly x z → ⊥

-- only whole numbers are taken: where a figure of any point is none, nothing is
abbrev pub OnlyWhole : Type 0
OnlyWhole =
    (bytes : List ℕ) (code areas values slopes i n : ℕ) → i < count bytes →
    (let t = triple_at bytes i in NotWhole t.area ⊎ (NotWhole t.value ⊎ NotWhole t.slope)) →
    import_answer bytes code areas values slopes ≡ gives n →
    ⊥
