-- Which parcels and zones overlap: those whose interiors have a common point (the first entry of the
-- nine-intersection matrix, OGC 06-103r4, 6.1.15.2).
-- A row is a parcel's or a zone's ring under its id.
use Rattle.std.specs.Prelude.{◌≡◌, ◌≢◌, ◌⊎◌, ◌↔◌, ⊤, ℕ, ◌<◌, List, [], ◌∷◌}
use Rattle.std.specs.List.{AllByRecursion, Contains}
use Rattle.std.specs.List.Sorted.{IsStrictlyIncreasing}
use Rattle.geo_exact.specs.declared.corner.Corner.{Corner}
use Rattle.geo_exact.specs.Interiors.{InteriorsMeet}
use Rattle.geo_exact.specs.Layers.{NumberedRing}

-- the parcel with this id and the zone with this one have a common interior point
pub record Overlaps (rows zones : List NumberedRing) (id zone : ℕ) : Type 0 where
  pub parcel : NumberedRing
  pub is_row : Contains rows parcel
  pub has_id : parcel.number ≡ id
  pub region : NumberedRing
  pub is_zone : Contains zones region
  pub has_zone : region.number ≡ zone
  pub interiors_meet : InteriorsMeet parcel.corners region.corners

-- a pair comes before another: by its id, and then by its zone
abbrev pub IsPairBefore : ℕ × ℕ → ℕ × ℕ → Type 0
IsPairBefore a b = (a.0 < b.0) ⊎ ((a.0 ≡ b.0) × (a.1 < b.1))

-- each pair comes before all behind it, and so stands there once
abbrev pub AreInPairOrder : List (ℕ × ℕ) → Type 0
AreInPairOrder [] = ⊤
AreInPairOrder (pair ∷ rest) = AllByRecursion (IsPairBefore pair) rest × AreInPairOrder rest

-- the pairs are all those of a parcel and a zone that overlap, each once, in ascending order
pub record IsOverlapTable (rows zones : List NumberedRing) (pairs : List (ℕ × ℕ)) : Type 0 where
  pub ascend : AreInPairOrder pairs
  pub exactly : (id zone : ℕ) → Contains pairs (id, zone) ↔ Overlaps rows zones id zone

-- what a table shows: the rows of parcels and zones, the city that both tile, the pairs, and the journal's length
pub record Overlay : Type 0 where
  pub rows : List NumberedRing
  pub zones : List NumberedRing
  pub city : List Corner
  pub pairs : List (ℕ × ℕ)
  pub entries : ℕ

-- the parcel with this id overlaps two zones
pub record IsSplitZoned (rows zones : List NumberedRing) (id : ℕ) : Type 0 where
  pub zone : ℕ
  pub other : ℕ
  pub are_two : zone ≢ other
  pub overlaps : Overlaps rows zones id zone
  pub overlaps_other : Overlaps rows zones id other

-- the ids of all split-zoned parcels, ascending, each once
pub record AreSplitZoned (rows zones : List NumberedRing) (ids : List ℕ) : Type 0 where
  pub ascend : IsStrictlyIncreasing ids
  pub exactly : (id : ℕ) → Contains ids id ↔ IsSplitZoned rows zones id

-- the parcel with this id overlaps this zone and no other
pub record OverlapsAlone (rows zones : List NumberedRing) (id zone : ℕ) : Type 0 where
  pub overlaps : Overlaps rows zones id zone
  pub no_other : (other : ℕ) → Overlaps rows zones id other → other ≡ zone
