-- Corners of a ring between two of its numbers, paths between two, and edges by
-- number: what the code copies and looks at.
use Rattle.std.specs.Prelude.{◌≡◌, ℕ, ◌+◌, ◌<◌, nat_lt, if◌then◌else◌, List, ◌++◌, length, take, drop, slice_range}
use Rattle.geo_exact.specs.declared.corner.Corner.{Corner}
use Rattle.geo_exact.specs.Places.{corner_at, after, before}
use Rattle.geo_exact.specs.Rings.{Edge}
use Rattle.geo_exact.specs.Segments.{IsStrictlyInside}
use Rattle.ring_edits.specs.Edits.{IsPath}

-- the corners behind number i and before number j, round the ring
abbrev pub between : List Corner → ℕ → ℕ → List Corner
between ring i j = if nat_lt i j then slice_range ring (i + 1) j else drop (i + 1) ring ++ take j ring

-- the path goes from corner i of the ring to corner j
pub record IsPathAt (ring corners : List Corner) (i j : ℕ) : Type 0 where
  pub i_in_ring : i < length ring
  pub j_in_ring : j < length ring
  pub middle : List Corner
  pub is_path : IsPath corners (corner_at ring i) middle (corner_at ring j)

-- edge k of the ring, which goes from corner k to the next
abbrev pub edge_at : List Corner → ℕ → Edge
edge_at ring k = record { from = corner_at ring k; to = corner_at ring (after (length ring) k) }

-- corner k of the ring is the one, and does not lie strictly inside the edge between its two neighbours
pub record IsBentAt (ring : List Corner) (at : Corner) (k : ℕ) : Type 0 where
  pub is_there : corner_at ring k ≡ at
  pub is_not_flat : ¬ IsStrictlyInside at (corner_at ring (before (length ring) k))
      (corner_at ring (after (length ring) k))
