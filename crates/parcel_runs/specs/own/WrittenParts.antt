-- What is written of a district, as the code's own functions hand it on: no public contract speaks of it.
use Rattle.std.specs.Prelude.{◌≡◌, ℕ, [], ◌∷◌, Some}
use Rattle.geo_exact.specs.declared.coord.Unit.TheVariants.{Mm}
use Rattle.geo_exact.specs.Layers.{NumberedRing, numbered}
use Rattle.shp_files.specs.LayerFile.{IsLayerFile}
use Rattle.shp_files.specs.Written.{written_main, written_index}
use Rattle.parcel_runs.specs.PartReport.{part_line}
use Rattle.parcel_runs.specs.declared.export.Exported.{Exported}

-- the two files are those of the row's ring alone, and are read again as that ring; the line is the row's
pub record IsWrittenPart {A : Type 0} (row : NumberedRing) (part : ℕ × Exported A) : Type 0 where
  pub has_number : part.0 ≡ row.number
  pub is_main : part.1.main.items ≡ written_main (row.corners ∷ [])
  pub is_index : part.1.index.items ≡ written_index (row.corners ∷ [])
  pub is_read_back : IsLayerFile part.1.main.items (Some part.1.index.items) Mm (numbered 1 row.corners ∷ [])
  pub is_told : part.1.lines.items ≡ part_line row
