-- What an overlay of parcels with zones writes, and why it does not (this product's own; which overlap is
-- zone_tables').
use Rattle.std.specs.Prelude.{◌≡◌, ◌⊎◌, ℕ, ◌<◌, ◌≤◌, List, ◌++◌, length, Option}
use Rattle.std.specs.Io.KnownBytes.{Appends}
use Rattle.fabric_core.specs.Rows.{Tiles}
use Rattle.text_pieces.specs.Beginnings.{AppendsBeginning}
use Rattle.zone_tables.specs.Overlap.{Overlay, IsOverlapTable}
use Rattle.zone_tables.specs.Report.{IsReport}
use Rattle.desk_lock.specs.declared.opening.TheConstants.{MOST_PLACES}
use Rattle.city_layers.specs.declared.fault.ToolFault.{ToolFault}
use Rattle.city_layers.specs.declared.fault.ToolFault.TheVariants.{NoThread}
use Rattle.city_layers.specs.TilingFiles.{Files}
use Rattle.city_layers.specs.ZonedFiles.{AreZoned, IsLayersFault}
use Rattle.clerk_runs.specs.ClerkRuns.{Register, IsEdited}
use Rattle.parcel_runs.specs.RunFiles.{ParcelRun}
use Rattle.parcel_runs.specs.RunFaults.{IsCrowded, IsClerkFault, IsWant}

-- the table is all pairs of the register's parcels and zones whose interiors meet, and says how many entries led there
pub record IsTableOf {A : Type 0} (after : Register A) (regions : Tiles) (table : Overlay) : Type 0 where
  pub rows : table.rows ≡ after.now.rows
  pub zones : table.zones ≡ regions.rows
  pub entries : table.entries ≡ length after.journal
  pub is_table : IsOverlapTable table.rows table.zones table.pairs

-- The text of an overlay: the lines of the clerks' edits, and then the report of the parcels that these lead to and
-- the zones, both as the files have them. Edits are in a memory A.
pub record IsOverlayText (A : Type 0) (run : ParcelRun) (zones : Files) (text : List ℕ) : Type 0 where
  pub tiles : Tiles
  pub regions : Tiles
  pub are_zoned : AreZoned run.city run.parcels zones run.unit tiles regions
  pub after : Register A
  pub told : List ℕ
  pub is_edited : IsEdited tiles run.clerks after told
  pub table : Overlay
  pub is_table : IsTableOf after regions table
  pub report : List ℕ
  pub is_report : IsReport table report
  pub is_text : text ≡ told ++ report

-- it was written after the bytes that were written before
pub record WritesOverlay (A : Type 0) (run : ParcelRun) (zones : Files) (old new : Option (List ℕ)) : Type 0 where
  pub text : List ℕ
  pub is_overlay : IsOverlayText A run zones text
  pub is_written : Appends old new text

-- a beginning of it was written after the bytes that were written before
pub record BeginsOverlay (A : Type 0) (run : ParcelRun) (zones : Files) (old new : Option (List ℕ)) : Type 0 where
  pub text : List ℕ
  pub is_overlay : IsOverlayText A run zones text
  pub is_begun : AppendsBeginning old new text

-- parcels and zones tile the city, and the fault is the first of the clerks' files
pub record IsClerkFaultBehindZones (run : ParcelRun) (zones : Files) (fault : ToolFault) : Type 0 where
  pub tiles : Tiles
  pub regions : Tiles
  pub are_zoned : AreZoned run.city run.parcels zones run.unit tiles regions
  pub is_first : IsClerkFault run.clerks fault

-- the fault is the first: how many clerks' files there are; then the layers', and the clerks', one file after the other
abbrev pub IsOverlayFault : ParcelRun → Files → ToolFault → Type 0
IsOverlayFault run zones fault = IsCrowded run.clerks fault
    ⊎ ((length run.clerks ≤ MOST_PLACES)
    × (IsLayersFault run.city run.parcels zones run.unit fault ⊎ IsClerkFaultBehindZones run zones fault))

-- an allocation failed; or, where there are clerks' files, the window of their office was given no reader; or one of so
-- many workers was given no thread
abbrev pub IsOverlayWant : (files workers : ℕ) → ToolFault → Type 0
IsOverlayWant files workers fault = IsWant files fault ⊎ ((hand : ℕ) × (hand < workers) × (fault ≡ NoThread hand))
