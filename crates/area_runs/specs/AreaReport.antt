-- What an overlay with areas writes: how much of each parcel lies in each zone (this product's own).
use Rattle.std.specs.Prelude.{◌≡◌, ℕ, List, ◌++◌, Option}
use Rattle.std.specs.Io.KnownBytes.{Appends}
use Rattle.std.specs.List.{flat_map}
use Rattle.text_pieces.specs.Beginnings.{AppendsBeginning}
use Rattle.city_layers.specs.TilingFiles.{Files}
use Rattle.area_shares.specs.AreaTable.{IsAreaTable}
use Rattle.area_shares.specs.AreaText.{area_text}
use Rattle.area_shares.specs.declared.shared.AreaLine.{AreaLine}
use Rattle.parcel_runs.specs.OverlayReport.{IsOverlayText}
use Rattle.parcel_runs.specs.RunFiles.{ParcelRun}

-- The text of an overlay, and behind it a line for each pair of its table. The lines of each parcel sum to its
-- twice-area, exactly.
pub record IsAreaRunText (A : Type 0) (run : ParcelRun) (zones : Files) (text : List ℕ) : Type 0 where
  pub overlay : List ℕ
  pub is_overlay : IsOverlayText A run zones overlay
  pub lines : List AreaLine
  pub are_areas : IsAreaTable is_overlay.table.rows is_overlay.table.zones is_overlay.table.pairs lines
  pub is_text : text ≡ overlay ++ flat_map area_text lines

-- it was written after the bytes that were written before
pub record WritesAreas (A : Type 0) (run : ParcelRun) (zones : Files) (old new : Option (List ℕ)) : Type 0 where
  pub text : List ℕ
  pub is_text : IsAreaRunText A run zones text
  pub is_written : Appends old new text

-- a beginning of it was written after the bytes that were written before
pub record BeginsAreas (A : Type 0) (run : ParcelRun) (zones : Files) (old new : Option (List ℕ)) : Type 0 where
  pub text : List ℕ
  pub is_text : IsAreaRunText A run zones text
  pub is_begun : AppendsBeginning old new text
