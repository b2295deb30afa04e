-- What the operator is answered to `overlay` and `overlay areas`, and why a round is not closed.
use Rattle.std.specs.Prelude.{◌≡◌, ⊤, ℕ, List, [], ◌++◌, Option, codes}
use Rattle.std.specs.List.{flat_map}
use Rattle.std.specs.Io.KnownBytes.{Appends}
use Rattle.geo_exact.specs.Layers.{NumberedRing}
use Rattle.zone_tables.specs.Overlap.{Overlay}
use Rattle.zone_tables.specs.Report.{IsReport}
use Rattle.area_shares.specs.AreaTable.{IsAreaTable}
use Rattle.area_shares.specs.AreaText.{area_text}
use Rattle.area_shares.specs.declared.shared.AreaLine.{AreaLine}
use Rattle.overlay_work.specs.declared.close.CloseFault.{CloseFault}
use Rattle.overlay_work.specs.declared.close.CloseFault.TheVariants.{NoThread, HandsMissing, Holding, NotDone, NoMemory}

-- What was collected, the report of a table, lines of areas and the end of the answer were written after the bytes that
-- were written before; nothing is collected then.
pub record WritesTable (table : Overlay) (areas : List AreaLine) (before after : List ℕ)
    (old new : Option (List ℕ)) : Type 0 where
  pub report : List ℕ
  pub is_report : IsReport table report
  pub is_written : Appends old new (before ++ report ++ flat_map area_text areas ++ codes ".\n")
  pub none_left : after ≡ []

-- The table that is told has these parcels and zones, and so many entries.
pub record IsTableOf (rows zones : List NumberedRing) (entries : ℕ) (table : Overlay) : Type 0 where
  pub has_rows : table.rows ≡ rows
  pub has_zones : table.zones ≡ zones
  pub has_entries : table.entries ≡ entries

-- the answer to `overlay`
pub record AnswersOverlay (rows zones : List NumberedRing) (entries : ℕ) (before after : List ℕ)
    (old new : Option (List ℕ)) : Type 0 where
  pub table : Overlay
  pub is_table : IsTableOf rows zones entries table
  pub writes : WritesTable table [] before after old new

-- the answer to `overlay areas`: the lines of each parcel sum to its twice-area, exactly
pub record AnswersAreas (rows zones : List NumberedRing) (entries : ℕ) (before after : List ℕ)
    (old new : Option (List ℕ)) : Type 0 where
  pub table : Overlay
  pub is_table : IsTableOf rows zones entries table
  pub areas : List AreaLine
  pub are_areas : IsAreaTable rows zones table.pairs areas
  pub writes : WritesTable table areas before after old new

-- why a round is not closed though its hand was handed in and is done, or holds a parcel for want of memory: memory was
-- wanting, to go on with that parcel, or to close the round
abbrev pub IsWantOfMemory : CloseFault → Type 0
IsWantOfMemory (NoThread number) = ⊥
IsWantOfMemory (HandsMissing made here) = ⊥
IsWantOfMemory (Holding number) = ⊤
IsWantOfMemory NotDone = ⊥
IsWantOfMemory NoMemory = ⊤
