-- What a run loads before its edits beside the parcels: the zones, where it has zones' files; and its first fault (the
-- order of the faults is this product's own).
use Rattle.std.specs.Prelude.{List, Option, None, Some}
use Rattle.geo_exact.specs.declared.coord.Unit.{Unit as LengthUnit}
use Rattle.geo_exact.specs.declared.corner.Corner.{Corner}
use Rattle.fabric_core.specs.Rows.{Tiles}
use Rattle.city_layers.specs.declared.fault.ToolFault.{ToolFault}
use Rattle.city_layers.specs.declared.sources.Source.{Source}
use Rattle.city_layers.specs.TilingFiles.{Files, files_of, IsTiledBy}
use Rattle.parcel_runs.specs.RunFiles.{ParcelRun}
use Rattle.parcel_runs.specs.RunFaults.{IsRunFault}
use Rattle.parcel_runs.specs.OverlayReport.{IsOverlayFault}

-- the zones' files, where there are any
abbrev pub files_of_zones : {A : Type 0} → Option (Source A) → Option Files
files_of_zones None = None
files_of_zones (Some zones) = Some (files_of zones)

-- where there are zones' files, zones are loaded, and tile the city; else there are none
abbrev pub AreRegions : Option Files → LengthUnit → List Corner → Option Tiles → Type 0
AreRegions None unit city None = Unit {0}
AreRegions None unit city (Some regions) = ⊥
AreRegions (Some files) unit city None = ⊥
AreRegions (Some files) unit city (Some regions) = IsTiledBy files unit city regions

-- the fault is the first of all files, those of the clerks too
abbrev pub IsInputFault : ParcelRun → Option Files → ToolFault → Type 0
IsInputFault run None fault = IsRunFault run fault
IsInputFault run (Some zones) fault = IsOverlayFault run zones fault
