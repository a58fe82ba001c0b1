-- What contracts of inner functions cite. Nothing here need be believed: the calls' contracts cite the documents' definitions.
--   put        bytes put into a list from an index on, the others as found
-- Assumes nothing.
use Rattle.std.specs.Prelude.{List, ◌++◌, ℕ, ◌+◌, length, take, drop}

abbrev pub put : ℕ → List ℕ → List ℕ → List ℕ
put at bytes found = take at found ++ bytes ++ drop (at + length bytes) found
