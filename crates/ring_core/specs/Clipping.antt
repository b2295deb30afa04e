-- Ear clipping: a ring is cut into triangles, ear by ear (G. H. Meisters, Polygons have ears, 1975). Which corner
-- comes first is this product's own rule.
use Rattle.std.specs.Prelude.{◌≡◌, ◌≢◌, ℕ, ◌<◌, pos, ◌≤ℤ◌, ◌<ℤ◌, List, [], ◌∷◌, ◌++◌, length}
use Rattle.std.specs.List.{remove}
use Rattle.geo_exact.specs.declared.corner.Corner.{Corner}
use Rattle.geo_exact.specs.Point.{corner_point}
use Rattle.geo_exact.specs.Turn.{turn, IsOnEdge}
use Rattle.ring_core.specs.declared.triangle.Tri.{Tri}
use Rattle.geo_exact.specs.Places.{corner_at, after, before}
use Rattle.geo_exact.specs.First.{HasNone, IsFirst}

-- corner q lies in the closed triangle a b c, whose turn is positive: right of none of its edges
pub record IsInTriangle (q a b c : Corner) : Type 0 where
  pub along_ab : pos 0 ≤ℤ turn a b q
  pub along_bc : pos 0 ≤ℤ turn b c q
  pub along_ca : pos 0 ≤ℤ turn c a q

-- the corner before corner k of the rest, and the one after it
abbrev pub previous : List Corner → ℕ → Corner
previous rest k = corner_at rest (before (length rest) k)

abbrev pub next : List Corner → ℕ → Corner
next rest k = corner_at rest (after (length rest) k)

-- corner k is flat: it lies on the edge between its two neighbours
abbrev pub IsFlat : List Corner → ℕ → Type 0
IsFlat rest k = IsOnEdge (corner_point (corner_at rest k)) (previous rest k) (next rest k)

-- corner j lies in the closed triangle of corner k and its neighbours, and is another number than these three
pub record Blocks (rest : List Corner) (k j : ℕ) : Type 0 where
  pub not_before : j ≢ before (length rest) k
  pub not_same : j ≢ k
  pub not_after : j ≢ after (length rest) k
  pub is_inside : IsInTriangle (corner_at rest j) (previous rest k) (corner_at rest k) (next rest k)

-- corner k is an ear: a left turn, with no other corner in the closed triangle of it and its neighbours
pub record IsEar (rest : List Corner) (k : ℕ) : Type 0 where
  pub turns_left : pos 0 <ℤ turn (previous rest k) (corner_at rest k) (next rest k)
  pub is_empty : HasNone (Blocks rest k) (length rest)

-- t is the triangle of corner k and its neighbours
pub record IsTriangleAt (rest : List Corner) (k : ℕ) (t : Tri) : Type 0 where
  pub a : t.a ≡ previous rest k
  pub b : t.b ≡ corner_at rest k
  pub c : t.c ≡ next rest k

-- The ring is clipped to the triangles and the rest. As long as more than two corners are left, the first flat corner
-- is taken out; where none is flat, the first ear is taken out, and its triangle added.
pub data Clips (ring : List Corner) : List Tri → List Corner → Type 0 where
  untouched : Clips ring [] ring
  flat : {ts : List Tri} {rest : List Corner} (k : ℕ) → Clips ring ts rest → 2 < length rest
      → IsFirst (IsFlat rest) (length rest) k → Clips ring ts (remove rest k)
  ear : {ts : List Tri} {rest : List Corner} (k : ℕ) (t : Tri) → Clips ring ts rest → 2 < length rest
      → HasNone (IsFlat rest) (length rest) → IsFirst (IsEar rest) (length rest) k → IsTriangleAt rest k t
      → Clips ring (ts ++ t ∷ []) (remove rest k)

-- the ring is clipped to the triangles down to two corners
abbrev pub IsClippedTo : List Corner → List Tri → Type 0
IsClippedTo ring ts = (rest : List Corner) × Clips ring ts rest × (length rest ≡ 2)
