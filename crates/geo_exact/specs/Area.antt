-- Twice the signed area of a ring, positive for a counterclockwise one; of a simple ring its absolute value is twice
-- the Area of OGC 06-103r4, 6.1.10.2.
use Rattle.std.specs.Prelude.{ℤ, ◌-ℤ◌, ◌*ℤ◌, List}
use Rattle.geo_exact.specs.declared.corner.Corner.{Corner}
use Rattle.geo_exact.specs.Rings.{Edge, edges, sum_over}

-- twice the signed area of the triangle from the origin to the edge
abbrev pub edge_area2 : Edge → ℤ
edge_area2 edge = edge.from.x *ℤ edge.to.y -ℤ edge.to.x *ℤ edge.from.y

-- twice the signed area that the ring goes round, each part counted as often as the ring goes round it
abbrev pub area2 : List Corner → ℤ
area2 ring = sum_over edge_area2 (edges ring)
