-- How a point lies to one ring (OGC 06-103r4, 6.1.7, LinearRing; 6.1.11, Polygon).
use Rattle.std.specs.Prelude.{List}
use Rattle.geo_exact.specs.declared.corner.Corner.{Corner}
use Rattle.geo_exact.specs.Point.{Point}
use Rattle.geo_exact.specs.Turn.{IsOnRing}
use Rattle.geo_exact.specs.Winding.{IsInterior}
use Rattle.ring_core.specs.declared.side.Side.{Side}
use Rattle.ring_core.specs.declared.side.Side.TheVariants.{Inside, OnEdge, Outside}

-- the point lies so to the ring
abbrev pub IsSide : Point → List Corner → Side → Type 0
IsSide p ring Inside = IsInterior p ring
IsSide p ring OnEdge = IsOnRing p ring
IsSide p ring Outside = (¬ IsOnRing p ring) × (¬ IsInterior p ring)
