-- Orientation, and points on an edge (OGC 06-103r4, 6.1.7, Line: a point of the segment between two points).
use Rattle.std.specs.Prelude.{◌≡◌, ◌⊎◌, ℤ, pos, ◌-ℤ◌, ◌*ℤ◌, ◌≤ℤ◌, List, [], ◌∷◌}
use Rattle.std.specs.Int.{int_min, int_max}
use Rattle.geo_exact.specs.declared.corner.Corner.{Corner}
use Rattle.geo_exact.specs.Point.{Point}
use Rattle.geo_exact.specs.Rings.{Edge, edges}

-- twice the signed area of the triangle a b c: positive where c is left of the way from a to b
abbrev pub turn : Corner → Corner → Corner → ℤ
turn a b c = (b.x -ℤ a.x) *ℤ (c.y -ℤ a.y) -ℤ (b.y -ℤ a.y) *ℤ (c.x -ℤ a.x)

-- the same at a rational point, times its denominator: positive where p is left of the way from a to b
abbrev pub turn_at : Corner → Corner → Point → ℤ
turn_at a b p = (b.x -ℤ a.x) *ℤ (p.y -ℤ a.y *ℤ p.d) -ℤ (b.y -ℤ a.y) *ℤ (p.x -ℤ a.x *ℤ p.d)

-- p lies on the edge from a to b, its ends included
pub record IsOnEdge (p : Point) (a b : Corner) : Type 0 where
  pub on_line : turn_at a b p ≡ pos 0
  pub from_x : (int_min a.x b.x *ℤ p.d) ≤ℤ p.x
  pub to_x : p.x ≤ℤ (int_max a.x b.x *ℤ p.d)
  pub from_y : (int_min a.y b.y *ℤ p.d) ≤ℤ p.y
  pub to_y : p.y ≤ℤ (int_max a.y b.y *ℤ p.d)

-- p lies on one of the edges
abbrev pub IsOnSome : Point → List Edge → Type 0
IsOnSome p [] = ⊥
IsOnSome p (edge ∷ rest) = IsOnEdge p edge.from edge.to ⊎ IsOnSome p rest

-- p lies on the ring, on one of its edges: the boundary of the polygon that it bounds
abbrev pub IsOnRing : Point → List Corner → Type 0
IsOnRing p ring = IsOnSome p (edges ring)
