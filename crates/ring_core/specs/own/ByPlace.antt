-- Edges of a ring listed by their places, and leaning boxes of blocks of eight: what the check of a ring looks through.
-- Public contracts do not speak of it.
use Rattle.std.specs.Prelude.{◌≡◌, ℕ, ◌+◌, ◌*◌, ◌<◌, ◌≤◌, List, length, slice_index_or}
use Rattle.geo_exact.specs.declared.corner.Corner.{Corner}
use Rattle.geo_exact.specs.Places.{after, corner_at}
use Rattle.ring_core.specs.declared.by_place.Placed.{Placed}
use Rattle.ring_core.specs.declared.leaning.TheConstants.{BLOCK_EDGES}
use Rattle.leaning_boxes.specs.declared.leaning.LeaningBox.{LeaningBox}
use Rattle.ring_core.specs.Simple.{MeetOtherwise}
use Rattle.leaning_boxes.specs.Leaning.{IsHeld}

-- the number of the edge listed at place p
abbrev pub edge_at : List Placed → ℕ → ℕ
edge_at list p = (slice_index_or list p (record { place = 0; edge = 0 })).edge

-- each listed edge is one of a ring of so many
abbrev pub AreInRing : ℕ → List Placed → Type 0
AreInRing count list = (p : ℕ) → p < length list → edge_at list p < count

-- the list has the edges of a ring of so many, each once
pub record AreEdgesOf (count : ℕ) (list : List Placed) : Type 0 where
  pub as_many : length list ≡ count
  pub in_ring : AreInRing count list
  pub each : (i : ℕ) → i < count → (p : ℕ) × (p < length list) × (edge_at list p ≡ i)

-- the leaning box holds both ends of edge i
abbrev pub HoldsEdge : LeaningBox → List Corner → ℕ → Type 0
HoldsEdge box ring i = IsHeld box (corner_at ring i) × IsHeld box (corner_at ring (after (length ring) i))

-- each edge is held by the box of its block
pub record AreBoxed (ring : List Corner) (list : List Placed) (boxes : List LeaningBox) : Type 0 where
  pub all : length list ≤ BLOCK_EDGES * length boxes
  pub some : (b : ℕ) → b < length boxes → BLOCK_EDGES * b < length list
  pub each : (b p : ℕ) (d : LeaningBox) → b < length boxes → BLOCK_EDGES * b ≤ p
      → p < BLOCK_EDGES * b + BLOCK_EDGES → p < length list
      → HoldsEdge (slice_index_or boxes b d) ring (edge_at list p)

-- edges i and j meet only as neighbours, whichever is the first
abbrev pub AreClear : List Corner → ℕ → ℕ → Type 0
AreClear ring i j = (i < j → ¬ MeetOtherwise ring i j) × (j < i → ¬ MeetOtherwise ring j i)

-- an edge of block b and one of its own or of a later block meet only as neighbours
abbrev pub IsBlockClear : List Corner → List Placed → ℕ → Type 0
IsBlockClear ring list b =
    (p q : ℕ) → BLOCK_EDGES * b ≤ p → p < BLOCK_EDGES * b + BLOCK_EDGES → p < length list
    → BLOCK_EDGES * b ≤ q → q < length list → AreClear ring (edge_at list p) (edge_at list q)
