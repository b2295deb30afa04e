-- A grid of 64 by 64 cells over an area, and which boxes stand in which of its cells (this product's own).
use Rattle.std.specs.Prelude.{◌≡◌, ◌≢◌, ℕ, ℤ, ◌+◌, ◌-◌, ◌*◌, ◌/◌, ◌<◌, ◌≤◌, ◌-ℤ◌, int_lt}
use Rattle.std.specs.Prelude.{nat_eq, nat_le, nat_lt, min, Bool, ◌&&◌, not, IsTrue, if◌then◌else◌, unsigned_abs, List}
use Rattle.std.specs.Prelude.{[], ◌++◌, length, slice_index_or}
use Rattle.std.specs.Int.{int_min, int_max}
use Rattle.std.specs.List.{filter, list_any, Contains, AllPairs}
use Rattle.geo_exact.specs.declared.bounds.Bounds.{Bounds}
use Rattle.geo_exact.specs.declared.corner.Corner.{Corner}
use Rattle.geo_exact.specs.Order.{is_same}
use Rattle.cell_index.specs.declared.entry.IndexEntry.{IndexEntry}
use Rattle.cell_index.specs.declared.axis.TheConstants.{ACROSS, MOST_CELLS}

-- how far one coordinate is above another; 0 where it is not
abbrev pub distance : ℤ → ℤ → ℕ
distance from to = if int_lt from to then unsigned_abs (to -ℤ from) else 0

-- the side of a cell along an axis on which the area goes from low to high, in millimetres
abbrev pub cell_side : ℤ → ℤ → ℕ
cell_side low high = distance low high / ACROSS + 1

-- the cell along that axis that a coordinate is in, from 0; what is below the area counts as its beginning
abbrev pub cell_of : (low high z : ℤ) → ℕ
cell_of low high z = distance low z / cell_side low high

-- the column of cells that an x is in, and the row of cells that a y is in
abbrev pub column : Bounds → ℤ → ℕ
column area x = cell_of area.low.x area.high.x x

abbrev pub row : Bounds → ℤ → ℕ
row area y = cell_of area.low.y area.high.y y

-- i is at least m and at most n
abbrev pub is_among : ℕ → ℕ → ℕ → Bool
is_among m n i = nat_le m i && nat_le i n

-- the box stands in the cell of column i and row j: both lie between those of the box's two corners
abbrev pub stands_in : Bounds → ℕ → ℕ → Bounds → Bool
stands_in area i j box = is_among (column area box.low.x) (column area box.high.x) i && is_among (row area box.low.y)
    (row area box.high.y) j

-- the box stands in the corner's cell
abbrev pub stands_at : Bounds → Corner → Bounds → Bool
stands_at area corner box = stands_in area (column area corner.x) (row area corner.y) box

-- how many of the grid's cells along an axis lie from the one that a coordinate is in to the one that another is in
abbrev pub cells_along : (low high from to : ℤ) → ℕ
cells_along low high from to = min ACROSS (cell_of low high to + 1) - min ACROSS (cell_of low high from)

-- how many cells of the grid the box stands in
abbrev pub box_cells : Bounds → Bounds → ℕ
box_cells area box =
    cells_along area.low.x area.high.x box.low.x box.high.x * cells_along area.low.y area.high.y box.low.y box.high.y

-- the box stands in so many cells that its entry is kept in none of them
abbrev pub is_wide : Bounds → Bounds → Bool
is_wide area box = nat_lt MOST_CELLS (box_cells area box)

-- the entries whose boxes are wide, and the others, in the list's order
abbrev pub wide : Bounds → List IndexEntry → List IndexEntry
wide area entries = filter (λ entry. is_wide area entry.bounds) entries

abbrev pub narrow : Bounds → List IndexEntry → List IndexEntry
narrow area entries = filter (λ entry. not (is_wide area entry.bounds)) entries

-- what an index shows: its area, what is kept in each of its cells, column by column, and what is kept beside them
pub record Grid : Type 0 where
  pub area : Bounds
  pub cells : List (List IndexEntry)
  pub beside : List IndexEntry

-- what is kept in the cell of column i and row j
abbrev pub cell : Grid → ℕ → ℕ → List IndexEntry
cell grid i j = slice_index_or grid.cells (ACROSS * i + j) []

-- what stands in the cell of column i and row j: what is kept in it, and what stands there
-- of that which is kept beside the cells
abbrev pub standing : Grid → ℕ → ℕ → List IndexEntry
standing grid i j = cell grid i j ++ filter (λ entry. stands_in grid.area i j entry.bounds) grid.beside

-- Each cell keeps exactly the listed entries whose boxes stand there and are not wide, and beside the cells are those
-- with wide boxes, each as often as listed and in that order. So in each cell stand those whose boxes do.
pub record Indexes (grid : Grid) (entries : List IndexEntry) : Type 0 where
  pub all_cells : length grid.cells ≡ ACROSS * ACROSS
  pub in_cells : (i j : ℕ) → i < ACROSS → j < ACROSS
      → cell grid i j ≡ filter (λ entry. stands_in grid.area i j entry.bounds) (narrow grid.area entries)
  pub beside_cells : grid.beside ≡ wide grid.area entries

-- the same key with the same box
abbrev pub is_same_entry : IndexEntry → IndexEntry → Bool
is_same_entry a b = nat_eq a.key b.key && (is_same a.bounds.low b.bounds.low && is_same a.bounds.high b.bounds.high)

-- the entries without those that are gone
abbrev pub without : List IndexEntry → List IndexEntry → List IndexEntry
without gone entries = filter (λ entry. not (list_any (is_same_entry entry) gone)) entries

-- no two of the entries have one key
abbrev pub HaveOwnKeys : List IndexEntry → Type 0
HaveOwnKeys entries = AllPairs (λ a b. a.key ≢ b.key) entries

-- a coordinate brought into the range from low to high, to the nearer end where it lies outside
abbrev pub brought_into : (low high z : ℤ) → ℤ
brought_into low high z = int_max low (int_min high z)

-- the cell of column i and row j is between those of two corners, these included, when
-- both corners are brought into the area
pub record IsCellBetween (area : Bounds) (low high : Corner) (i j : ℕ) : Type 0 where
  pub from_column : column area (brought_into area.low.x area.high.x low.x) ≤ i
  pub to_column : i ≤ column area (brought_into area.low.x area.high.x high.x)
  pub from_row : row area (brought_into area.low.y area.high.y low.y) ≤ j
  pub to_row : j ≤ row area (brought_into area.low.y area.high.y high.y)

-- the box stands in some cell between the cells of two corners
abbrev pub StandsBetween : Bounds → (low high : Corner) → Bounds → Type 0
StandsBetween area low high box = (i : ℕ) × (j : ℕ) × IsCellBetween area low high i j × IsTrue (stands_in area i j box)

-- the key is that of an entry whose box stands in some cell between the cells of two corners
abbrev pub IsKeyBetween : Bounds → (low high : Corner) → List IndexEntry → ℕ → Type 0
IsKeyBetween area low high entries key =
    (entry : IndexEntry) × Contains entries entry × (entry.key ≡ key) × StandsBetween area low high entry.bounds
