-- What a parcel within a zone is: no edge of a zone counts (this product's own; interiors and boundaries are those of
-- OGC 06-103r4, 6.1.11, Polygon).
use Rattle.std.specs.Prelude.{◌≡◌, ℕ, List}
use Rattle.std.specs.List.{Contains}
use Rattle.geo_exact.specs.declared.corner.Corner.{Corner}
use Rattle.geo_exact.specs.Point.{Point}
use Rattle.geo_exact.specs.Turn.{IsOnRing}
use Rattle.geo_exact.specs.Winding.{IsInterior}
use Rattle.geo_exact.specs.Layers.{NumberedRing}

-- p lies on no edge of a zone
abbrev pub IsOffZones : Point → List NumberedRing → Type 0
IsOffZones p zones = (zone : NumberedRing) → Contains zones zone → ¬ IsOnRing p zone.corners

-- each interior point of the parcel that lies on no zone's edge is an interior point of the zone
abbrev pub IsWithin : List NumberedRing → List Corner → List Corner → Type 0
IsWithin zones parcel zone = (p : Point) → IsInterior p parcel → IsOffZones p zones → IsInterior p zone

-- the parcel with this id is within the zone with this one
pub record IsWithinZone (rows zones : List NumberedRing) (id zone : ℕ) : Type 0 where
  pub parcel : NumberedRing
  pub is_row : Contains rows parcel
  pub has_id : parcel.number ≡ id
  pub region : NumberedRing
  pub is_zone : Contains zones region
  pub has_zone : region.number ≡ zone
  pub is_within : IsWithin zones parcel.corners region.corners
