-- Both desk readings give the same answer unless the scratch length decides.
-- Assumes nothing.
use Prim.Native.Nat.{ℕ}
use mathlib.Core.Path.{◌≡◌, refl, ap}
use mathlib.Core.Bool.{Bool, true, false}
use mathlib.Core.List.{List}
use lib.IntN.{ℤ}
use Rattle.model.specs.Answer.{Answer, gives, refused, row, ◌then◌}
use Rattle.model.specs.Read.{read_answer}
use Rattle.layout.specs.Layout.{shape_code, points_of}
use Rattle.layout.specs.Head.{head_rows}
use Rattle.desk_answer.specs.Desk.{answer_with}
use Rattle.desk_answer.specs.Laws.{SameAnswer}

-- rows, then row 11 by its condition, then the rest
abbrev by_11 : Answer (Unit {0}) → Answer ℤ → Bool → Answer ℤ
by_11 rows rest short = rows then row short 11 0 then rest

neither : (rows : Answer (Unit {0})) (rest : Answer ℤ) (a b : Bool) → (by_11 rows rest a ≡ refused 11 0 → ⊥) →
    (by_11 rows rest b ≡ refused 11 0 → ⊥) → by_11 rows rest a ≡ by_11 rows rest b
unfolding row ◌then◌
neither (refused n i) rest a b p q = refl
neither (gives u) rest true b p q = absurd (p refl)
neither (gives u) rest false true p q = absurd (q refl)
neither (gives u) rest false false p q = refl

pub same_answer : (bytes : List ℕ) (area all two : ℕ) → SameAnswer bytes area all two
unfolding answer_with
same_answer bytes area all two =
    let rest = read_answer (points_of bytes) (shape_code bytes) area in
    record {
      alike = λ e. ap (by_11 (head_rows bytes) rest) e;
      unless_11 = neither (head_rows bytes) rest _ _;
    }
