-- The line of a check that finds a tiling (this product's own): the number of parcels, and twice the city's area.
use Rattle.std.specs.Prelude.{◌≡◌, ◌⊎◌, ℕ, List, ◌++◌, length, codes, decimal, unsigned_abs, Option}
use Rattle.std.specs.Io.KnownBytes.{Appends}
use Rattle.geo_exact.specs.Area.{area2}
use Rattle.geo_exact.specs.declared.corner.Corner.{Corner}
use Rattle.geo_exact.specs.Layers.{NumberedRing}
use Rattle.fabric_core.specs.Rows.{Tiles}
use Rattle.text_pieces.specs.Beginnings.{AppendsBeginning}
use Rattle.city_layers.specs.TilingFiles.{AreTiles}
use Rattle.city_layers.specs.FaultLines.{AreLinesBefore}
use Rattle.city_layers.specs.declared.fault.ToolFault.{ToolFault}
use Rattle.city_layers.specs.declared.fault.ToolFault.TheVariants.{NoMemory}
use Rattle.clerk_runs.specs.ClerkRuns.{Register, IsEdited}
use Rattle.parcel_runs.specs.RunFiles.{ParcelRun}
use Rattle.parcel_runs.specs.RunFaults.{IsRunFault}

-- `tiling N AREA2`
abbrev pub tiling_line : List NumberedRing → List Corner → List ℕ
tiling_line rows city =
    codes "tiling " ++ decimal (length rows) ++ codes " " ++ decimal (unsigned_abs (area2 city)) ++ codes "\n"

-- The text of a check: the parcels' files tile the city of the city's files, and the text is the lines of the clerks'
-- edits, and that of what they lead to. Edits are in a memory A.
pub record IsCheckText (A : Type 0) (run : ParcelRun) (text : List ℕ) : Type 0 where
  pub tiles : Tiles
  pub are_tiles : AreTiles run.city run.parcels run.unit tiles
  pub after : Register A
  pub told : List ℕ
  pub is_edited : IsEdited tiles run.clerks after told
  pub is_text : text ≡ told ++ tiling_line after.now.rows tiles.city

-- it was written after the bytes that were written before
pub record WritesTiling (A : Type 0) (run : ParcelRun) (old new : Option (List ℕ)) : Type 0 where
  pub text : List ℕ
  pub is_check : IsCheckText A run text
  pub is_written : Appends old new text

-- a beginning of it was written after the bytes that were written before
pub record BeginsTiling (A : Type 0) (run : ParcelRun) (old new : Option (List ℕ)) : Type 0 where
  pub text : List ℕ
  pub is_check : IsCheckText A run text
  pub is_begun : AppendsBeginning old new text

-- a beginning of the lines that come before the run's first fault, or before an allocation failed, was written after
-- the bytes that were written before
pub record BeginsLines (run : ParcelRun) (old new : Option (List ℕ)) : Type 0 where
  pub fault : ToolFault
  pub is_fault : IsRunFault run fault ⊎ (fault ≡ NoMemory)
  pub lines : List ℕ
  pub are_lines : AreLinesBefore run.city run.parcels run.unit fault lines
  pub is_begun : AppendsBeginning old new lines
