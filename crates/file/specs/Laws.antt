-- Document 02, item 1: what is proved of Write and Open together. Proofs: proofs/Laws.antt.
-- Assumes nothing.
use Rattle.std.specs.Prelude.{ℕ, ◌≤◌, ◌<◌, ◌≡◌, List, ◌++◌, map, ℤ, length, take, drop}
use Rattle.model.specs.Answer.{Answer, gives, filled}
use Rattle.model.specs.Points.{points}
use Rattle.model.specs.Check.{on_lists}
use Rattle.layout.specs.Layout.{byte, points_of}
use Rattle.encoding.specs.File.{file_bytes}
use Rattle.file.specs.Open.{ShapeAndCount, open_answer}
use Rattle.file.specs.Write.{write_answer}

-- numbers below 256
abbrev pub Bytes : List ℕ → Type 0
Bytes bytes = (at : ℕ) → byte bytes at < 256

-- Write: its answer, and the buffer after it
module _ (areas values : List ℕ) (slopes : List ℤ) (code : ℕ) (buffer : List ℕ) where
  abbrev pub write_into : Answer ℕ
  write_into = on_lists areas values slopes (λ ps. write_answer ps code (length buffer))

  abbrev pub buffer_after : List ℕ
  buffer_after = filled write_into (file_bytes (points areas values slopes) code) buffer

-- Open: its answer, and the lists after it
module _ (bytes : List ℕ) (areas values : List ℕ) (slopes : List ℤ) where
  abbrev pub open_into : Answer ShapeAndCount
  open_into = open_answer bytes (length areas) (length values) (length slopes)

  abbrev pub areas_after : List ℕ
  areas_after = filled open_into (map (λ p. p.area) (points_of bytes)) areas

  abbrev pub values_after : List ℕ
  values_after = filled open_into (map (λ p. p.value) (points_of bytes)) values

  abbrev pub slopes_after : List ℤ
  slopes_after = filled open_into (map (λ p. p.slope) (points_of bytes)) slopes

-- opening what was written into lists long enough yields the very points and shape that went in
abbrev pub OpeningGivesBack : Type 0
OpeningGivesBack =
    (areas values : List ℕ) (slopes : List ℤ) (code : ℕ) (buffer : List ℕ) (n : ℕ) →
    write_into areas values slopes code buffer ≡ gives n →
    (areas' values' : List ℕ) (slopes' : List ℤ) →
    length areas ≤ length areas' → length values ≤ length values' → length slopes ≤ length slopes' →
    let file = take n (buffer_after areas values slopes code buffer) in
    (open_into file areas' values' slopes' ≡ gives (record { shape = code; count = length areas }))
    × (areas_after file areas' values' slopes' ≡ areas ++ drop (length areas) areas')
    × (values_after file areas' values' slopes' ≡ values ++ drop (length values) values')
    × (slopes_after file areas' values' slopes' ≡ slopes ++ drop (length slopes) slopes')

-- each accepted curve has one file: bytes that Open accepts are the file of their points and shape
abbrev pub OneFile : Type 0
OneFile =
    (bytes : List ℕ) → Bytes bytes → (areas values : List ℕ) (slopes : List ℤ) (head : ShapeAndCount) →
    open_into bytes areas values slopes ≡ gives head → bytes ≡ file_bytes (points_of bytes) head.shape

-- so what was opened, the first entries of the lists, is written back byte for byte into a buffer long enough
abbrev pub WrittenBack : Type 0
WrittenBack =
    (bytes : List ℕ) → Bytes bytes → (areas values : List ℕ) (slopes : List ℤ) (head : ShapeAndCount) →
    open_into bytes areas values slopes ≡ gives head →
    (buffer : List ℕ) → length bytes ≤ length buffer →
    let areas' = take head.count (areas_after bytes areas values slopes) in
    let values' = take head.count (values_after bytes areas values slopes) in
    let slopes' = take head.count (slopes_after bytes areas values slopes) in
    (write_into areas' values' slopes' head.shape buffer ≡ gives (length bytes))
    × (buffer_after areas' values' slopes' head.shape buffer ≡ bytes ++ drop (length bytes) buffer)
