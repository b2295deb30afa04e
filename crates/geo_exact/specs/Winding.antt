-- The winding number of a ring round a point, and the ring's interior (OGC 06-103r4, 6.1.11, Polygon: interior of a
-- simple counterclockwise ring).
-- A shapefile has its outer rings clockwise (Technical Description, July 1998, "Polygon"); such a ring has no
-- interior here until it is turned round.
use Rattle.std.specs.Prelude.{ℤ, pos, negsuc, ◌*ℤ◌, ◌≤ℤ◌, int_le, int_lt, Bool, if◌then◌else◌, List}
use Rattle.geo_exact.specs.declared.corner.Corner.{Corner}
use Rattle.geo_exact.specs.Point.{Point}
use Rattle.geo_exact.specs.Rings.{Edge, edges, sum_over}
use Rattle.geo_exact.specs.Turn.{turn_at, IsOnRing}

-- the corner is at the height of p or below it
abbrev pub is_not_above : Corner → Point → Bool
is_not_above a p = int_le (a.y *ℤ p.d) p.y

-- how the edge from a to b crosses the ray from p to the right: 1 upward with p on its left, -1 downward with p on its
-- right, else 0. An edge crosses where one end is at p's height or below it and the other end above.
abbrev pub crossing : Point → Corner → Corner → ℤ
crossing p a b =
    if is_not_above a p
    then (if is_not_above b p then pos 0 else (if int_lt (pos 0) (turn_at a b p) then pos 1 else pos 0))
    else (if is_not_above b p then (if int_lt (turn_at a b p) (pos 0) then negsuc 0 else pos 0) else pos 0)

-- the sum of the crossings of edges
abbrev pub crossings : Point → List Edge → ℤ
crossings p es = sum_over (λ edge. crossing p edge.from edge.to) es

-- how often the ring goes round p, counterclockwise; on an edge, what the half-open rule gives
abbrev pub winding : Point → List Corner → ℤ
winding p ring = crossings p (edges ring)

-- p is an interior point of the ring: on no edge, and the ring goes round it counterclockwise
pub record IsInterior (p : Point) (ring : List Corner) : Type 0 where
  pub off_edges : ¬ IsOnRing p ring
  pub is_wound : pos 1 ≤ℤ winding p ring
