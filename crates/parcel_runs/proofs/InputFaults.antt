-- What a run loads, and the first fault of its files, with zones' files and without.
use Rattle.std.proofs.Common.{◌≡◌, ◌⊎◌, inl, inr, ◌≤◌, length, Option, None, Some, subst}
use Rattle.geo_exact.specs.declared.coord.Unit.{Unit as LengthUnit}
use Rattle.fabric_core.specs.Rows.{Tiles}
use Rattle.city_layers.specs.declared.fault.ToolFault.{ToolFault}
use Rattle.city_layers.specs.declared.fault.ToolFault.TheVariants.{NoMemory}
use Rattle.city_layers.specs.TilingFiles.{Files, files_of, AreTiles}
use Rattle.city_layers.specs.ZonedFiles.{AreZoned}
use Rattle.clerk_runs.specs.ClerkFiles.{texts_of}
use Rattle.desk_lock.specs.declared.opening.TheConstants.{MOST_PLACES}
use Rattle.parcel_runs.specs.declared.run_files.RunFiles.{RunFiles}
use Rattle.parcel_runs.specs.RunFiles.{parcel_run_of}
use Rattle.parcel_runs.specs.RunFaults.{IsClerkFault}
use Rattle.parcel_runs.specs.RunInputs.{AreRegions, IsInputFault}
use Rattle.parcel_runs.specs.own.LayerFaults.{IsLayersFaultOf}
use Rattle.parcel_runs.proofs.RunFaults.{few_texts, few_fault, behind}
use Rattle.parcel_runs.proofs.OverlayFaults.{few_overlay_fault, behind_zones}

-- the files of a run with few clerks' files
module _ {A : Type 0} (files : RunFiles A) (few : length files.clerks.items ≤ MOST_PLACES) where
  -- a fault is of the layers or behind them
  pub few_input_fault : (P : Type 0) (zones : Option Files) (fault : ToolFault) → IsInputFault (parcel_run_of files) zones fault
      → (IsLayersFaultOf (parcel_run_of files) zones fault → P)
      → ((tiles : Tiles) (regions : Option Tiles)
      → AreTiles (files_of files.city) (files_of files.parcels) files.unit tiles
      → AreRegions zones files.unit tiles.city regions
      → IsClerkFault (texts_of files.clerks.items) fault → P) → P
  few_input_fault P None fault h of_layers behind_it =
      few_fault files few P fault h of_layers (λ tiles are k. behind_it tiles None are tt k)
  few_input_fault P (Some zones) fault h of_layers behind_it =
      few_overlay_fault files zones few P fault h of_layers
      (λ tiles regions are k. behind_it tiles (Some regions) are.are_tiles are.are_regions k)

  -- the layers' first fault is the first of all
  pub layers_first : (zones : Option Files) (fault : ToolFault)
      → IsLayersFaultOf (parcel_run_of files) zones fault ⊎ (fault ≡ NoMemory)
      → IsInputFault (parcel_run_of files) zones fault ⊎ (fault ≡ NoMemory)
  layers_first None fault (inl h) = inl (inr (few_texts files.clerks.items few, inl h))
  layers_first (Some zones) fault (inl h) = inl (inr (few_texts files.clerks.items few, inl h))
  layers_first None fault (inr h) = inr h
  layers_first (Some zones) fault (inr h) = inr h

  -- a fault of the clerks' files, as it is told behind the layers'
  pub behind_layers : (zones : Option Files) (tiles : Tiles) (regions : Option Tiles) (fault : ToolFault)
      → AreTiles (files_of files.city) (files_of files.parcels) files.unit tiles
      → AreRegions zones files.unit tiles.city regions
      → IsClerkFault (texts_of files.clerks.items) fault ⊎ (fault ≡ NoMemory)
      → IsInputFault (parcel_run_of files) zones fault ⊎ (fault ≡ NoMemory)
  behind_layers None tiles regions fault are on h = behind files few tiles fault are h
  behind_layers (Some zones) tiles None fault are on h = absurd on
  behind_layers (Some zones) tiles (Some regions) fault are on h =
      behind_zones files zones few tiles regions fault (record { are_tiles = are; are_regions = on }) h

-- what is said of zones' files says it of zones that tile the parcels' city
pub where_zoned : (P : Type 0) (city parcels zones : Files) (unit : LengthUnit) (tiles : Tiles) (regions : Option Tiles)
    → AreTiles city parcels unit tiles → AreRegions (Some zones) unit tiles.city regions
    → ((others : Tiles) → AreZoned city parcels zones unit tiles others → P) → P
where_zoned P city parcels zones unit tiles None are on told = absurd on
where_zoned P city parcels zones unit tiles (Some regions) are on told =
    told regions (record { are_tiles = are; are_regions = on })

-- zones that were read, and the parcels, both tile the city
pub zoned : (city parcels zones : Files) (unit : LengthUnit) (tiles regions : Tiles) (read : Option Tiles) → read ≡ Some regions
    → AreTiles city parcels unit tiles → AreRegions (Some zones) unit tiles.city read
    → AreZoned city parcels zones unit tiles regions
zoned city parcels zones unit tiles regions read is are on = record {
  are_tiles = are;
  are_regions = subst (AreRegions (Some zones) unit tiles.city) is on;
}
