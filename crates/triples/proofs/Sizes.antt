-- How many points an export has: exported_length, as many as triples; points_length, as points.
-- Assumes nothing.
use Rattle.std.proofs.Common.{◌≡◌, ◌∙◌, ℕ, List, map, length}
use lib.ListN.{length-map}
use Rattle.model.proofs.Filling.{tabulate_length}
use Rattle.triples.specs.Triples.{triple_at, count, taken, exported, point_from}

module _ (bytes : List ℕ) where
  pub exported_length : length (exported bytes) ≡ count bytes
  exported_length = tabulate_length (λ i. taken (triple_at bytes i)) 0 (count bytes)

  pub points_length : length (map point_from (exported bytes)) ≡ count bytes
  points_length = length-map (exported bytes) point_from ∙ exported_length
