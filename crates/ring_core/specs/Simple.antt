-- Simple rings: their edges meet only as neighbours do (OGC 06-103r4, 6.1.7, LinearRing: closed and simple; 6.1.6,
-- Curve: simple). Stricter than there, where a curve is a set of points: here the ring runs counterclockwise, and an
-- edge of no length is an edge like another.
use Rattle.std.specs.Prelude.{◌≡◌, ◌⊎◌, ℕ, ◌<◌, pos, ◌<ℤ◌, List, length}
use Rattle.geo_exact.specs.declared.corner.Corner.{Corner}
use Rattle.geo_exact.specs.Point.{Point, IsPlaceOf}
use Rattle.geo_exact.specs.Turn.{IsOnEdge}
use Rattle.geo_exact.specs.Area.{area2}
use Rattle.geo_exact.specs.Places.{corner_at, after}

-- p lies on edge i of the ring, which goes from corner i to the next
abbrev pub IsOnEdgeAt : Point → List Corner → ℕ → Type 0
IsOnEdgeAt p ring i = IsOnEdge p (corner_at ring i) (corner_at ring (after (length ring) i))

-- edges i and j follow one another, and p is the corner between them
abbrev pub IsSharedCorner : Point → List Corner → ℕ → ℕ → Type 0
IsSharedCorner p ring i j =
    ((j ≡ after (length ring) i) × IsPlaceOf p (corner_at ring j))
    ⊎ ((i ≡ after (length ring) j) × IsPlaceOf p (corner_at ring i))

-- edges i and j meet otherwise than as neighbours: some point lies on both, and is no corner that they share
abbrev pub MeetOtherwise : List Corner → ℕ → ℕ → Type 0
MeetOtherwise ring i j = (p : Point) × IsOnEdgeAt p ring i × IsOnEdgeAt p ring j × (¬ IsSharedCorner p ring i j)

-- the edges of the ring meet only as neighbours, in their shared corner
abbrev pub MeetOnlyAsNeighbours : List Corner → Type 0
MeetOnlyAsNeighbours ring = (i j : ℕ) → i < j → j < length ring → ¬ MeetOtherwise ring i j

-- the ring is counterclockwise, with an area, and its edges meet only as neighbours, in their shared corner
pub record IsSimpleRing (ring : List Corner) : Type 0 where
  pub counterclockwise : pos 0 <ℤ area2 ring
  pub simple : MeetOnlyAsNeighbours ring
