-- Districts with a second layer, of zones, and zones that are cut into pieces (this product's own).
use Rattle.std.specs.Prelude.{◌≡◌, List, map}
use Rattle.std.specs.List.{AllByRecursion}
use Rattle.geo_exact.specs.declared.corner.Corner.{Corner}
use Rattle.geo_exact.specs.Layers.{NumberedRing}
use Rattle.district_laws.specs.Districts.{District, IsDistrict, AreDistricts}

-- a district with its parcels, and the outline and the rows of its layer of zones
pub record ZonedDistrict : Type 0 where
  pub parcels : District
  pub zones_outline : List Corner
  pub zones : List NumberedRing

-- the same district with its zones for rows
abbrev pub zone_layer : ZonedDistrict → District
zone_layer district = record { row = district.parcels.row; outline = district.zones_outline; rows = district.zones }

-- the districts with their parcels for rows
abbrev pub parcel_layers : List ZonedDistrict → List District
parcel_layers districts = map (λ district. district.parcels) districts

-- the districts with their zones for rows
abbrev pub zone_layers : List ZonedDistrict → List District
zone_layers districts = map zone_layer districts

-- the districts tile the city, and both the parcels and the zones of each tile the district
pub record AreZonedDistricts (districts : List ZonedDistrict) (city : List Corner) : Type 0 where
  pub parcels : AreDistricts (parcel_layers districts) city
  pub zones : AreDistricts (zone_layers districts) city

-- a zone that is cut into pieces, which tile it and have its number: the zone is the row, and the pieces are the rows
pub record IsCutZone (zone : District) : Type 0 where
  pub is_tiled : IsDistrict zone
  pub same_number : AllByRecursion (λ piece. piece.number ≡ zone.row.number) zone.rows
