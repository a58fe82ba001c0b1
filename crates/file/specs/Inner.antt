-- What contracts of inner functions cite. Nothing here need be believed: the calls' contracts cite the documents' definitions.
--   head_of    shape and count, in the documents' numbers
-- Assumes nothing.
use Rattle.std.specs.Prelude.{ℕ}
use Rattle.shape.specs.declared.Shape.{Shape}
use Rattle.shape.specs.Codes.{code_of}
use Rattle.file.specs.Open.{ShapeAndCount}

abbrev pub head_of : Shape × ℕ → ShapeAndCount
head_of h = record { shape = code_of h.0; count = h.1 }
