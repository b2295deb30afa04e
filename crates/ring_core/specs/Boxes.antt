-- Boxes that hold triangles (OGC 06-103r4, 6.1.2.2, Envelope).
use Rattle.geo_exact.specs.declared.bounds.Bounds.{Bounds}
use Rattle.geo_exact.specs.Bounds.{HoldsCorner}
use Rattle.ring_core.specs.declared.triangle.Tri.{Tri}

-- the box holds the triangle, its sides included
pub record HoldsTriangle (box : Bounds) (t : Tri) : Type 0 where
  pub a : HoldsCorner box t.a
  pub b : HoldsCorner box t.b
  pub c : HoldsCorner box t.c
