-- Winding numbers and areas summed over triangles (OGC 06-103r4, 6.1.12,
-- PolyhedralSurface: a surface made up of polygons).
use Rattle.std.specs.Prelude.{◌≡◌, ℤ, pos, ◌+ℤ◌, ◌≤ℤ◌, List, [], ◌∷◌}
use Rattle.std.specs.List.{All}
use Rattle.geo_exact.specs.declared.corner.Corner.{Corner}
use Rattle.geo_exact.specs.Point.{Point}
use Rattle.geo_exact.specs.Winding.{winding}
use Rattle.geo_exact.specs.Area.{area2}
use Rattle.ring_core.specs.declared.triangle.Tri.{Tri}

-- the triangle as a ring
abbrev pub triangle_ring : Tri → List Corner
triangle_ring t = t.a ∷ t.b ∷ t.c ∷ []

-- how often the triangles go round p, all together
abbrev pub winding_of_triangles : Point → List Tri → ℤ
winding_of_triangles p [] = pos 0
winding_of_triangles p (t ∷ ts) = winding p (triangle_ring t) +ℤ winding_of_triangles p ts

-- the triangles' twice-areas, all together
abbrev pub area2_of_triangles : List Tri → ℤ
area2_of_triangles [] = pos 0
area2_of_triangles (t ∷ ts) = area2 (triangle_ring t) +ℤ area2_of_triangles ts

-- the triangle goes round p once or not at all
abbrev pub IsRoundAtMostOnce : Point → Tri → Type 0
IsRoundAtMostOnce p t = (pos 0 ≤ℤ winding p (triangle_ring t)) × (winding p (triangle_ring t) ≤ℤ pos 1)

-- the triangles make up the ring: round every point, each going round it at most once, and in area
pub record MakeUp (ts : List Tri) (ring : List Corner) : Type 0 where
  pub windings : (p : Point) → winding p ring ≡ winding_of_triangles p ts
  pub each_once : (p : Point) → All (IsRoundAtMostOnce p) ts
  pub areas : area2 ring ≡ area2_of_triangles ts
