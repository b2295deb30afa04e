-- A city made of districts, each with a layer of its own (this product's own).
use Rattle.std.specs.Prelude.{◌≡◌, List, map}
use Rattle.std.specs.List.{AllByRecursion, flat_map}
use Rattle.geo_exact.specs.declared.corner.Corner.{Corner}
use Rattle.geo_exact.specs.Layers.{NumberedRing}
use Rattle.geo_exact.specs.Rings.{begun_at_least}
use Rattle.ring_edits.specs.Edits.{CoversAlike}
use Rattle.fabric_core.specs.Faults.{AreSimple}
use Rattle.fabric_core.specs.Tiling.{IsTiling}

-- a district: its row in the city's layer of districts, the ring that is its own layer's city, and that layer's rows
pub record District : Type 0 where
  pub row : NumberedRing
  pub outline : List Corner
  pub rows : List NumberedRing

-- the rows of the layer tile its outline, and the outline covers what the district's row covers
pub record IsDistrict (district : District) : Type 0 where
  pub covers : CoversAlike district.outline district.row.corners
  pub tiling : IsTiling district.rows district.outline

-- the districts as rows of the city
abbrev pub district_rows : List District → List NumberedRing
district_rows districts = map (λ district. district.row) districts

-- the rows of all districts, one district's behind the other's
abbrev pub all_rows : List District → List NumberedRing
all_rows districts = flat_map (λ district. district.rows) districts

-- the districts tile the city, and the rows of each tile the district
pub record AreDistricts (districts : List District) (city : List Corner) : Type 0 where
  pub tiling : IsTiling (district_rows districts) city
  pub each : AllByRecursion IsDistrict districts

-- every district's row, and every row of each, is a simple ring
pub record AreSimpleDistricts (districts : List District) : Type 0 where
  pub themselves : AreSimple (district_rows districts)
  pub rows : AllByRecursion (λ district. AreSimple district.rows) districts

-- the city of the district's own layer is the ring of this record, begun at its least corner, and its rows tile it
pub record IsLayerOf (record_ring : NumberedRing) (district : District) : Type 0 where
  pub is_outline : district.outline ≡ begun_at_least record_ring.corners
  pub tiling : IsTiling district.rows district.outline
