-- Points on the two sides of an edge, and how winding numbers differ there: the jump is this product's own. That a
-- polygon's interior is on one side of a ring's edges, to the right of one who walks along the ring in vertex order,
-- is the ESRI Shapefile Technical Description's, July 1998, "Polygon"; here rings may run in either direction, and
-- overlap.
use Rattle.std.specs.Prelude.{◌≡◌, ◌⊎◌, ℤ, pos, ◌-ℤ◌, ◌<ℤ◌, List, ◌++◌}
use Rattle.std.specs.List.{Contains}
use Rattle.geo_exact.specs.declared.corner.Corner.{Corner}
use Rattle.geo_exact.specs.Point.{Point}
use Rattle.geo_exact.specs.Rings.{Edge}
use Rattle.geo_exact.specs.Turn.{turn_at, IsOnEdge, IsOnSome}
use Rattle.geo_exact.specs.Segments.{IsInsideEdge, IsHalfway, IsOnSegment}
use Rattle.edge_chains.specs.Net.{all_edges, net_count, winding_of_rings}

-- one point is left and one right of the edge from a to b, and the place halfway between them is on the edge and
-- neither of its ends
pub record AreBeside (left right : Point) (a b : Corner) : Type 0 where
  pub is_left : pos 0 <ℤ turn_at a b left
  pub is_right : turn_at a b right <ℤ pos 0
  pub through : (m : Point) × IsHalfway m left right × IsInsideEdge m a b

-- the edge is the one from a to b, or the one from b to a
abbrev pub Joins : Edge → Corner → Corner → Type 0
Joins edge a b = ((edge.from ≡ a) × (edge.to ≡ b)) ⊎ ((edge.from ≡ b) × (edge.to ≡ a))

-- an edge that has a point in common with the segment from left to right is the one from a to b, or the one from b to a
abbrev pub MeetsOnly : Point → Point → List Edge → Corner → Corner → Type 0
MeetsOnly left right es a b = (edge : Edge) (q : Point) → Contains es edge → IsOnSegment q left right
    → IsOnEdge q edge.from edge.to → Joins edge a b

-- how much oftener the added rings go round p than the taken ones
abbrev pub winding_difference : Point → List (List Corner) → List (List Corner) → ℤ
winding_difference p added taken = winding_of_rings p added -ℤ winding_of_rings p taken

-- the net count of the edge from a to b in the added rings, less the one in the taken rings
abbrev pub net_difference : List (List Corner) → List (List Corner) → Corner → Corner → ℤ
net_difference added taken a b = net_count added a b -ℤ net_count taken a b

-- Two points beside the edge from a to b, off all edges and with no other edge between them: the difference of the
-- winding numbers left of the edge, less the one right of it, is the edge's net count, added less taken.
pub record IsJump (added taken : List (List Corner)) (a b : Corner) (left right : Point) : Type 0 where
  pub beside : AreBeside left right a b
  pub left_is_off : ¬ IsOnSome left (all_edges (added ++ taken))
  pub right_is_off : ¬ IsOnSome right (all_edges (added ++ taken))
  pub no_other_between : MeetsOnly left right (all_edges (added ++ taken)) a b
  pub changes : winding_difference left added taken -ℤ winding_difference right added taken
      ≡ net_difference added taken a b
