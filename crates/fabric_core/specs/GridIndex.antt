-- Which parcels stand in which cells of a layer's grid (this product's own; the cells of a grid are cell_index').
use Rattle.std.specs.Prelude.{◌≡◌, ℕ, IsTrue, List}
use Rattle.std.specs.List.{AllZip, Contains}
use Rattle.geo_exact.specs.declared.bounds.Bounds.{Bounds}
use Rattle.geo_exact.specs.declared.corner.Corner.{Corner}
use Rattle.geo_exact.specs.Bounds.{IsLeastBox}
use Rattle.geo_exact.specs.Layers.{NumberedRing}
use Rattle.cell_index.specs.declared.entry.IndexEntry.{IndexEntry}
use Rattle.cell_index.specs.Cells.{Grid, Indexes, StandsBetween, stands_in}

-- a row's entry: its least box, under its id
pub record IsEntryOf (row : NumberedRing) (entry : IndexEntry) : Type 0 where
  pub has_id : entry.key ≡ row.number
  pub is_its_box : IsLeastBox entry.bounds row.corners

-- The index's area is the city's least box, and in its cells stand exactly the rows' least boxes, under their ids.
pub record IsIndexed (rows : List NumberedRing) (city : List Corner) (index : Grid) : Type 0 where
  pub area : IsLeastBox index.area city
  pub entries : List IndexEntry
  pub are_theirs : AllZip IsEntryOf rows entries
  pub stand : Indexes index entries

-- a row with this id reaches the cell of column i and row j by its least box, in the grid over an area
pub record ReachesCell (rows : List NumberedRing) (area : Bounds) (i j id : ℕ) : Type 0 where
  pub row : NumberedRing
  pub is_row : Contains rows row
  pub has_id : row.number ≡ id
  pub box : Bounds
  pub is_its_box : IsLeastBox box row.corners
  pub reaches : IsTrue (stands_in area i j box)

-- the parcel with this id stands, by its least box, in some cell between those of two corners, in the grid over the
-- city's least box
pub record IsCandidate (rows : List NumberedRing) (city : List Corner) (low high : Corner) (id : ℕ) : Type 0 where
  pub row : NumberedRing
  pub is_row : Contains rows row
  pub has_id : row.number ≡ id
  pub area : Bounds
  pub is_area : IsLeastBox area city
  pub box : Bounds
  pub is_its_box : IsLeastBox box row.corners
  pub stands : StandsBetween area low high box
