-- Document 01, "The figures and their units", and document 02, item 4: the code of a shape.
-- Assumes nothing.
use Rattle.std.specs.Prelude.{ℕ}
use Rattle.shape.specs.declared.Shape.{Shape}
use Rattle.shape.specs.declared.Shape.TheVariants.{Rising, Convex, Falling, Concave}

abbrev pub code_of : Shape → ℕ
code_of Rising = 1
code_of Convex = 2
code_of Falling = 3
code_of Concave = 4
