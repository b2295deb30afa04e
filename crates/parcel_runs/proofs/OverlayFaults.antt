-- The first fault of an overlay's files.
use Rattle.std.proofs.Common.{◌≡◌, ◌⊎◌, inl, inr, ◌≤◌, length, arith}
use Rattle.fabric_core.specs.Rows.{Tiles}
use Rattle.city_layers.specs.declared.fault.ToolFault.{ToolFault}
use Rattle.city_layers.specs.declared.fault.ToolFault.TheVariants.{NoMemory}
use Rattle.city_layers.specs.TilingFiles.{Files, files_of}
use Rattle.city_layers.specs.ZonedFiles.{AreZoned, IsLayersFault}
use Rattle.clerk_runs.specs.ClerkFiles.{texts_of}
use Rattle.desk_lock.specs.declared.opening.TheConstants.{MOST_PLACES}
use Rattle.parcel_runs.specs.declared.run_files.RunFiles.{RunFiles}
use Rattle.parcel_runs.specs.RunFiles.{parcel_run_of}
use Rattle.parcel_runs.specs.RunFaults.{IsClerkFault}
use Rattle.parcel_runs.specs.OverlayReport.{IsOverlayFault}
use Rattle.parcel_runs.proofs.RunFaults.{few_texts}

-- the files of an overlay with few clerks' files
module _ {A : Type 0} (files : RunFiles A) (zones : Files) (few : length files.clerks.items ≤ MOST_PLACES) where
  -- a fault is of the layers or behind them
  pub few_overlay_fault : (P : Type 0) (fault : ToolFault) → IsOverlayFault (parcel_run_of files) zones fault
      → (IsLayersFault (files_of files.city) (files_of files.parcels) zones files.unit fault → P)
      → ((tiles regions : Tiles)
      → AreZoned (files_of files.city) (files_of files.parcels) zones files.unit tiles regions
      → IsClerkFault (texts_of files.clerks.items) fault → P) → P
  few_overlay_fault P fault (inl h) of_layers behind =
      absurd (omega (arith, h.are_more, few_texts files.clerks.items few))
  few_overlay_fault P fault (inr h) of_layers behind =
      elim h.1 [ inl k ↦ of_layers k | inr k ↦ behind k.tiles k.regions k.are_zoned k.is_first ]

  -- a fault of the clerks' files, as it is told behind the layers'
  pub behind_zones : (tiles regions : Tiles) (fault : ToolFault)
      → AreZoned (files_of files.city) (files_of files.parcels) zones files.unit tiles regions
      → IsClerkFault (texts_of files.clerks.items) fault ⊎ (fault ≡ NoMemory)
      → IsOverlayFault (parcel_run_of files) zones fault ⊎ (fault ≡ NoMemory)
  behind_zones tiles regions fault are (inl h) = inl (inr (
    few_texts files.clerks.items few,
    inr record { tiles = tiles; regions = regions; are_zoned = are; is_first = h },
  ))
  behind_zones tiles regions fault are (inr h) = inr h
