-- What a part writes and prints: one parcel of a layer that tiles its city, or each of them, as the city of a layer of
-- its own (this product's own; the two files are those of the Technical Description, July 1998).
use Rattle.std.specs.Prelude.{◌≡◌, ◌≢◌, ◌⊎◌, ℕ, List, [], ◌∷◌, ◌++◌, Some, codes}
use Rattle.std.specs.List.{AllZip, Contains}
use Rattle.geo_exact.specs.declared.coord.Unit.{Unit as LengthUnit}
use Rattle.geo_exact.specs.declared.coord.Unit.TheVariants.{Mm}
use Rattle.geo_exact.specs.Layers.{NumberedRing}
use Rattle.shp_files.specs.Written.{written_main, written_index}
use Rattle.fabric_core.specs.Rows.{Tiles}
use Rattle.city_layers.specs.AreaReport.{area_line}
use Rattle.city_layers.specs.declared.fault.ToolFault.{ToolFault}
use Rattle.city_layers.specs.declared.fault.ToolFault.TheVariants.{NoParcel}
use Rattle.city_layers.specs.TilingFiles.{Files, AreTiles, IsCityOf, IsTilesFault}
use Rattle.parcel_runs.specs.declared.export.Exported.{Exported}

-- `part ID AREA2`, twice the area of the row's ring
abbrev pub part_line : NumberedRing → List ℕ
part_line row = codes "part " ++ area_line row

-- the districts' files tile the city of the city's files; the main file and the index file are those of the ring of the
-- row with this number, alone, and read in millimetres they are a city with that very ring; printed is the row's line
pub record IsPart (city districts : Files) (unit : LengthUnit) (id : ℕ) (main index line : List ℕ) : Type 0 where
  pub tiles : Tiles
  pub are_tiles : AreTiles city districts unit tiles
  pub row : NumberedRing
  pub is_row : Contains tiles.rows row
  pub has_number : row.number ≡ id
  pub is_main : main ≡ written_main (row.corners ∷ [])
  pub is_index : index ≡ written_index (row.corners ∷ [])
  pub is_city : IsCityOf (record { main = main; index = Some index }) Mm row.corners
  pub is_told : line ≡ part_line row

-- the districts' files tile the city of the city's files, and none of the rows has this number
pub record IsNoParcel (city districts : Files) (unit : LengthUnit) (id : ℕ) (fault : ToolFault) : Type 0 where
  pub tiles : Tiles
  pub are_tiles : AreTiles city districts unit tiles
  pub has_none : (row : NumberedRing) → Contains tiles.rows row → row.number ≢ id
  pub is_told : fault ≡ NoParcel id

-- the fault is the first: the city's, then the districts', and then that no row has this number
abbrev pub IsPartFault : Files → Files → LengthUnit → ℕ → ToolFault → Type 0
IsPartFault city districts unit id fault =
    IsTilesFault city districts unit fault ⊎ IsNoParcel city districts unit id fault

-- the districts' files tile the city of the city's files; there is one part for each row, in the rows' order (which is
-- by ascending number), beside the row's number, and what is written and printed of it is that row's part
pub record AreAllParts {A : Type 0} (city districts : Files) (unit : LengthUnit) (parts : List (ℕ × Exported A))
    : Type 0 where
  pub tiles : Tiles
  pub are_tiles : AreTiles city districts unit tiles
  pub are_parts : AllZip (λ row part. (part.0 ≡ row.number)
      × IsPart city districts unit row.number part.1.main.items part.1.index.items part.1.lines.items) tiles.rows parts
