-- Rings that turn left at their least corner, and their ears off each edge (G. H. Meisters, Polygons have ears, 1975).
use Rattle.std.proofs.Common.{◌≡◌, ◌≢◌, ◌⊎◌, ℕ, ◌<◌, List, length}
use Rattle.std.specs.Prelude.{IsTrue}
use Rattle.std.specs.List.{remove}
use lib.IntN.{pos}
use lib.Signed.{◌<ℤ◌}
use Rattle.geo_exact.specs.declared.corner.Corner.{Corner}
use Rattle.geo_exact.specs.Turn.{turn}
use Rattle.geo_exact.specs.Order.{is_before}
use Rattle.geo_exact.specs.Places.{corner_at, after}
use Rattle.ring_core.specs.Simple.{MeetOnlyAsNeighbours}
use Rattle.ring_core.specs.Clipping.{previous, next, IsFlat, IsEar}

-- the ring's corner v comes before all its others, and the ring turns left there
pub record IsLeftAtLeast (ring : List Corner) (v : ℕ) : Type 0 where
  pub below : v < length ring
  pub least : (i : ℕ) → i < length ring → i ≢ v → IsTrue (is_before (corner_at ring v) (corner_at ring i))
  pub turns_left : pos 0 <ℤ turn (previous ring v) (corner_at ring v) (next ring v)

abbrev pub IsFlatOrEar : List Corner → ℕ → Type 0
IsFlatOrEar ring k = IsFlat ring k ⊎ IsEar ring k

-- rings of n corners have a flat corner or an ear off each edge
abbrev pub HaveEarsOff : ℕ → Type 0
HaveEarsOff n = (ring : List Corner) (v : ℕ) → length ring ≡ n → MeetOnlyAsNeighbours ring → IsLeftAtLeast ring v
    → (i : ℕ) → i < n → (k : ℕ) × (k < n) × (k ≢ i) × (k ≢ after n i) × IsFlatOrEar ring k

-- rings of n corners keep their direction where their least corner is an ear that is taken out
abbrev pub KeepTheirDirection : ℕ → Type 0
KeepTheirDirection n = (ring : List Corner) (v : ℕ) → length ring ≡ n → MeetOnlyAsNeighbours ring
    → IsLeftAtLeast ring v → IsEar ring v
    → (u : ℕ) × IsLeftAtLeast (remove ring v) u
