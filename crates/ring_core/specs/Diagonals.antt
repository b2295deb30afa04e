-- Diagonals of rings (G. H. Meisters, Polygons have ears, 1975), where less is said than there: a segment between two
-- corners that meets the ring in no other point may run outside of it.
use Rattle.std.specs.Prelude.{◌⊎◌, ℕ, ◌<◌, List, length}
use Rattle.geo_exact.specs.declared.corner.Corner.{Corner}
use Rattle.geo_exact.specs.Point.{Point, IsPlaceOf, corner_point}
use Rattle.geo_exact.specs.Places.{corner_at}
use Rattle.geo_exact.specs.Segments.{IsOnSegment}
use Rattle.ring_core.specs.Simple.{IsOnEdgeAt}

-- what the segment from corner j to corner k has in common with the edges of the ring is at these two corners
abbrev pub IsDiagonal : List Corner → ℕ → ℕ → Type 0
IsDiagonal ring j k = (i : ℕ) (p : Point) → i < length ring → IsOnEdgeAt p ring i
    → IsOnSegment p (corner_point (corner_at ring j)) (corner_point (corner_at ring k))
    → IsPlaceOf p (corner_at ring j) ⊎ IsPlaceOf p (corner_at ring k)
