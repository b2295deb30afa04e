-- Rings that together cover what a city covers. Public contracts do not speak of it.
use Rattle.std.specs.Prelude.{◌≡◌, List, [], ◌∷◌}
use Rattle.geo_exact.specs.declared.corner.Corner.{Corner}
use Rattle.geo_exact.specs.Point.{Point}
use Rattle.edge_chains.specs.Net.{winding_of_rings, area2_of_rings}

-- the rings together go round each rational point as often as the refined city, and have its area
pub record GoAlike (rings : List (List Corner)) (refined : List Corner) : Type 0 where
  pub windings : (p : Point) → winding_of_rings p rings ≡ winding_of_rings p (refined ∷ [])
  pub areas : area2_of_rings rings ≡ area2_of_rings (refined ∷ [])
