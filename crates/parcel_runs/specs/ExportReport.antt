-- What an export writes and prints (this product's own; the two files are those of the Technical Description,
-- July 1998).
use Rattle.std.specs.Prelude.{◌≡◌, ℕ, List, ◌++◌, length, codes, decimal}
use Rattle.geo_exact.specs.Layers.{NumberedRing}
use Rattle.shp_files.specs.Written.{written_main, written_index}
use Rattle.fabric_core.specs.Tiling.{corner_lists}
use Rattle.fabric_core.specs.Rows.{Tiles}
use Rattle.city_layers.specs.TilingFiles.{AreTiles}
use Rattle.clerk_runs.specs.ClerkRuns.{Register, IsEdited}
use Rattle.parcel_runs.specs.RunFiles.{ParcelRun}

-- `exported N`, the number of parcels
abbrev pub exported_line : List NumberedRing → List ℕ
exported_line rows = codes "exported " ++ decimal (length rows) ++ codes "\n"

-- the parcels' files tile the city of the city's files; the main file and the index file are those of the rings that
-- the clerks' edits lead to, by ascending id; printed are the lines of the edits, and how many parcels there are then;
-- edits are in a memory A
pub record IsExport (A : Type 0) (run : ParcelRun) (main index lines : List ℕ) : Type 0 where
  pub tiles : Tiles
  pub are_tiles : AreTiles run.city run.parcels run.unit tiles
  pub after : Register A
  pub told : List ℕ
  pub is_edited : IsEdited tiles run.clerks after told
  pub is_main : main ≡ written_main (corner_lists after.now.rows)
  pub is_index : index ≡ written_index (corner_lists after.now.rows)
  pub is_told : lines ≡ told ++ exported_line after.now.rows
