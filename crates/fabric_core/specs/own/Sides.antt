-- How a point lies to rows gone through one by one. Public contracts do not speak of it.
use Rattle.std.specs.Prelude.{◌↔◌, ℕ, List}
use Rattle.std.specs.List.{Contains}
use Rattle.geo_exact.specs.Point.{Point}
use Rattle.geo_exact.specs.Layers.{NumberedRing}
use Rattle.fabric_core.specs.Locate.{IsOnEdgeOf, IsInsideOf}

-- what is found out of rows, none of which has p inside: the ids of those with p on an edge
pub record IsFound (rows : List NumberedRing) (p : Point) (on_edge : List ℕ) : Type 0 where
  pub exactly : (id : ℕ) → Contains on_edge id ↔ IsOnEdgeOf rows p id
  pub none_inside : (id : ℕ) → ¬ IsInsideOf rows p id
