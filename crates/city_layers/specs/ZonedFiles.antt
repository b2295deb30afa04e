-- A city's files and two layers' files that tile it, and the first fault of those that do not (the order of the faults
-- is this product's own).
use Rattle.std.specs.Prelude.{◌⊎◌}
use Rattle.geo_exact.specs.declared.coord.Unit.{Unit as LengthUnit}
use Rattle.fabric_core.specs.Rows.{Tiles}
use Rattle.city_layers.specs.declared.fault.Role.TheVariants.{Zones}
use Rattle.city_layers.specs.declared.fault.ToolFault.{ToolFault}
use Rattle.city_layers.specs.TilingFiles.{Files, AreTiles, IsTiledBy, IsTilesFault, IsFaultOfLayer}

-- the parcels' files and the zones' files both tile the city of the city's files
pub record AreZoned (city parcels zones : Files) (unit : LengthUnit) (tiles regions : Tiles) : Type 0 where
  pub are_tiles : AreTiles city parcels unit tiles
  pub are_regions : IsTiledBy zones unit tiles.city regions

-- the parcels' files tile the city, and the fault is the first of the zones' files in it
pub record IsZonesFault (city parcels zones : Files) (unit : LengthUnit) (fault : ToolFault) : Type 0 where
  pub tiles : Tiles
  pub are_tiles : AreTiles city parcels unit tiles
  pub is_fault : IsFaultOfLayer Zones zones unit tiles.city fault

-- the fault is the first of the three layers: the city's before the parcels', and these before the zones'
abbrev pub IsLayersFault : Files → Files → Files → LengthUnit → ToolFault → Type 0
IsLayersFault city parcels zones unit fault =
    IsTilesFault city parcels unit fault ⊎ IsZonesFault city parcels zones unit fault
