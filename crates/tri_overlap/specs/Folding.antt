-- Two triangles of one list whose interiors meet (OGC 06-103r4, 6.1.13, MultiSurface: the interiors of its surfaces may
-- not intersect).
use Rattle.std.specs.Prelude.{◌≡◌, ℕ, List, Some, slice_get, length}
use Rattle.geo_exact.specs.First.{HasNoPair, IsFirstPair}
use Rattle.geo_exact.specs.Interiors.{InteriorsMeet}
use Rattle.ring_core.specs.declared.triangle.Tri.{Tri}
use Rattle.ring_core.specs.Sums.{triangle_ring}

-- the list has triangles i and j, and their interiors meet
pub record OverlapAt (ts : List Tri) (i j : ℕ) : Type 0 where
  pub one : Tri
  pub other : Tri
  pub at_i : slice_get ts i ≡ Some one
  pub at_j : slice_get ts j ≡ Some other
  pub meet : InteriorsMeet (triangle_ring one) (triangle_ring other)

-- no two triangles of the list overlap
abbrev pub HasNoOverlap : List Tri → Type 0
HasNoOverlap ts = HasNoPair (OverlapAt ts) (length ts)

-- triangles i and j are the first two, by i and then by j, that overlap
abbrev pub IsFirstOverlap : List Tri → ℕ → ℕ → Type 0
IsFirstOverlap ts i j = IsFirstPair (OverlapAt ts) (length ts) i j
