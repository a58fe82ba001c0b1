-- Fields of points, copied into a list: copying_field, one point more.
-- Assumes nothing.
use Rattle.std.proofs.Common.{◌≡◌, ℕ, ◌+◌, ◌≤◌, ◌<◌, List, map, length, set, sym, ◌∙◌, arith}
use lib.ListN.{length-map, get_or-map}
use Rattle.model.specs.Points.{Point, origin, point_at}
use Rattle.model.proofs.Filling.{Copied, copying_goes_on}

module _ {B : Type 0} (f : Point → B) (ps : List Point) where
  pub copying_field : {found filled : List B} {i : ℕ} (v : B) → Copied (map f ps) found filled i →
      i < length ps → length ps ≤ length found → v ≡ f (point_at ps i) →
      Copied (map f ps) found (set filled i v) (i + 1)
  copying_field {i = i} v k h room e =
      copying_goes_on (map f ps) _ (f origin) v k (omega (arith, length-map ps f)) (omega arith)
      (e ∙ sym (get_or-map f ps i origin))
