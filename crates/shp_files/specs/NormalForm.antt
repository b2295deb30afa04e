-- The form in which a ring is kept: no corner twice in a row, and counterclockwise (this product's own; Technical
-- Description, July 1998, "Polygon", draws outer rings clockwise).
use Rattle.std.specs.Prelude.{◌≤◌, pos, ◌≤ℤ◌, int_lt, Bool, ◌&&◌, if◌then◌else◌, List, [], ◌∷◌, length}
use Rattle.std.specs.Ordering.{int_eq}
use Rattle.geo_exact.specs.declared.corner.Corner.{Corner}
use Rattle.geo_exact.specs.Rings.{Edge, edges, HasNoRepeats, turned_round}
use Rattle.geo_exact.specs.Area.{area2}
use Rattle.geo_exact.specs.declared.limits.TheConstants.{RING_CORNERS}

-- the edge ends where it begins
abbrev pub is_nowhere : Edge → Bool
is_nowhere edge = int_eq edge.from.x edge.to.x && int_eq edge.from.y edge.to.y

-- where the edges of some length begin
abbrev pub starts : List Edge → List Corner
starts [] = []
starts (edge ∷ rest) = if is_nowhere edge then starts rest else edge.from ∷ starts rest

-- Of neighbours that are equal, round the ring, one is kept, and none where all are equal. The list begins with the
-- first corner drawn: where the ring ends with that corner once more, the copies at its end go.
abbrev pub kept_once : List Corner → List Corner
kept_once ring = starts (edges ring)

-- counterclockwise, with the first corner kept first
abbrev pub counterclockwise : List Corner → List Corner
counterclockwise ring = if int_lt (area2 ring) (pos 0) then turned_round ring else ring

abbrev pub normal_form : List Corner → List Corner
normal_form ring = counterclockwise (kept_once ring)

-- a ring of a polygon in that form
abbrev pub IsNormal : List Corner → Type 0
IsNormal ring = (3 ≤ length ring) × (length ring ≤ RING_CORNERS) × HasNoRepeats ring × (pos 0 ≤ℤ area2 ring)
