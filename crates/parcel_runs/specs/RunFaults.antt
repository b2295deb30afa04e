-- The first fault of a run's files: of a city, its parcels, and clerks' files (the order of the faults is this
-- product's own).
use Rattle.std.specs.Prelude.{◌≡◌, ◌⊎◌, ℕ, ◌<◌, ◌≤◌, List, length}
use Rattle.fabric_core.specs.Rows.{Tiles}
use Rattle.clerk_runs.specs.ClerkFiles.{IsFirstBadOfAll}
use Rattle.desk_lock.specs.declared.opening.TheConstants.{MOST_PLACES}
use Rattle.city_layers.specs.declared.fault.ToolFault.{ToolFault}
use Rattle.city_layers.specs.declared.fault.ToolFault.TheVariants.{ClerkCount, ClerkLine, NoWindow, NoMemory}
use Rattle.city_layers.specs.TilingFiles.{AreTiles, IsTilesFault}
use Rattle.parcel_runs.specs.RunFiles.{ParcelRun}

-- there are more clerks' files than a run takes
pub record IsCrowded (clerks : List (List ℕ)) (fault : ToolFault) : Type 0 where
  pub are_more : MOST_PLACES < length clerks
  pub is_told : fault ≡ ClerkCount (length clerks)

-- the first bad line of the first file that has one
abbrev pub IsClerkFault : List (List ℕ) → ToolFault → Type 0
IsClerkFault clerks fault =
    (clerk : ℕ) × (line : ℕ) × IsFirstBadOfAll clerks clerk line × (fault ≡ ClerkLine clerk line)

-- the parcels' files tile the city of the city's files, and the fault is the first of the clerks' files
pub record IsClerkFaultBehind (run : ParcelRun) (fault : ToolFault) : Type 0 where
  pub tiles : Tiles
  pub are_tiles : AreTiles run.city run.parcels run.unit tiles
  pub is_first : IsClerkFault run.clerks fault

-- the fault is the first: how many clerks' files there are; then the city's, the parcels', and the clerks', one file
-- after the other
abbrev pub IsRunFault : ParcelRun → ToolFault → Type 0
IsRunFault run fault = IsCrowded run.clerks fault
    ⊎ ((length run.clerks ≤ MOST_PLACES)
    × (IsTilesFault run.city run.parcels run.unit fault ⊎ IsClerkFaultBehind run fault))

-- an allocation failed, or, where there are clerks' files, the one window of the clerks' office was given no reader
abbrev pub IsWant : ℕ → ToolFault → Type 0
IsWant files fault = (fault ≡ NoMemory) ⊎ ((0 < files) × (fault ≡ NoWindow 1))
