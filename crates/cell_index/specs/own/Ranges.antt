-- How the code goes over the cells of a range, one by one. Public contracts do not speak of it.
use Rattle.std.specs.Prelude.{◌≡◌, ◌≢◌, ℕ, zero, suc, ◌+◌, ◌*◌, ◌/◌, ◌%◌, ◌<◌, ◌≤◌, ◌==◌, Bool}
use Rattle.std.specs.Prelude.{◌&&◌, ◌||◌, true, not, nat_lt, min, max, if◌then◌else◌, List, [], ◌∷◌, ◌++◌, map}
use Rattle.std.specs.Prelude.{take, slice_index_or}
use Rattle.std.specs.List.{filter, Contains}
use Rattle.smallvec.specs.SmallVec.{SmallVec, HasRoomFor}
use Rattle.cell_index.specs.declared.axis.TheConstants.{ACROSS}
use Rattle.cell_index.specs.declared.axis.Span.{Span}
use Rattle.cell_index.specs.declared.entry.IndexEntry.{IndexEntry}
use Rattle.cell_index.specs.declared.range.CellRange.{CellRange}
use Rattle.cell_index.specs.declared.places.TheConstants.{WIDE_CELL}
use Rattle.cell_index.specs.declared.places.Places.{Places}
use Rattle.cell_index.specs.declared.places.Places.TheVariants.{Cells, Wide}
use Rattle.geo_exact.specs.declared.bounds.Bounds.{Bounds}
use Rattle.cell_index.specs.Cells.{column, row, stands_in, is_wide, Grid}

-- how many cells a range has
abbrev pub cell_count : CellRange → ℕ
cell_count range = range.columns.count * range.rows.count

-- the column, the row and the number of the n-th cell of a range, column by column
abbrev pub column_at : CellRange → ℕ → ℕ
column_at range n = range.columns.first + n / range.rows.count

abbrev pub row_at : CellRange → ℕ → ℕ
row_at range n = range.rows.first + n % range.rows.count

abbrev pub number_at : CellRange → ℕ → ℕ
number_at range n = ACROSS * column_at range n + row_at range n

-- the range has the cell of column i and row j
pub record HasCell (range : CellRange) (i j : ℕ) : Type 0 where
  pub from_column : range.columns.first ≤ i
  pub to_column : i < range.columns.first + range.columns.count
  pub from_row : range.rows.first ≤ j
  pub to_row : j < range.rows.first + range.rows.count

-- a box is kept in cell k: in the last where it is wide, else in those where it stands
abbrev pub is_kept_in : Bounds → ℕ → Bounds → Bool
is_kept_in area k box =
    if k == WIDE_CELL then is_wide area box
    else (not (is_wide area box) && stands_in area (k / ACROSS) (k % ACROSS) box)

-- how many cells the places are, and the number of the n-th
abbrev pub place_count : Places → ℕ
place_count (Cells range) = cell_count range
place_count Wide = 1

abbrev pub place_at : Places → ℕ → ℕ
place_at (Cells range) n = number_at range n
place_at Wide n = WIDE_CELL

-- cell k is one of the places
abbrev pub HasPlace : Places → ℕ → Type 0
HasPlace places k = (n : ℕ) × (n < place_count places) × (place_at places n ≡ k)

-- a cell, as the code keeps it
abbrev pub Cell : Type 0
Cell = SmallVec IndexEntry

abbrev pub no_cell : Cell
no_cell = record { items = []; capacity = 0 }

abbrev pub cell_at : List Cell → ℕ → Cell
cell_at cells k = slice_index_or cells k no_cell

-- what stands in the cells
abbrev pub contents : List Cell → List (List IndexEntry)
contents cells = map (λ c. c.items) cells

-- what the cells show: the last of them is that of the wide boxes
abbrev pub shown : Bounds → List Cell → Grid
shown area cells =
    record {
      area = area;
      cells = take WIDE_CELL (contents cells);
      beside = slice_index_or (contents cells) WIDE_CELL [];
    }

-- each of the first n of the places has so much room
abbrev pub HaveRoom : Places → ℕ → ℕ → List Cell → Type 0
HaveRoom places n count cells = (m : ℕ) → m < n → HasRoomFor (cell_at cells (place_at places m)) count

-- each cell that one of these boxes is kept in has so much room
abbrev pub HaveRoomForAll : Bounds → List IndexEntry → ℕ → List Cell → Type 0
HaveRoomForAll area entries count cells = (entry : IndexEntry) → Contains entries entry → (k : ℕ) → k ≤ WIDE_CELL
    → is_kept_in area k entry.bounds ≡ true → HasRoomFor (cell_at cells k) count

-- in each cell are exactly the entries that are kept there
abbrev pub Keeps : Bounds → List Cell → List IndexEntry → Type 0
Keeps area cells entries = (k : ℕ) → k ≤ WIDE_CELL → (cell_at cells k).items
    ≡ filter (λ entry. is_kept_in area k entry.bounds) entries

-- no cell has less room than it had
abbrev pub KeepRoom : List Cell → List Cell → Type 0
KeepRoom old new = (k : ℕ) → (cell_at old k).capacity ≤ (cell_at new k).capacity

-- the first n of the places are changed so, and no other
pub record IsChanged (places : Places) (n : ℕ) (change : Cell → Cell) (old new : List Cell) : Type 0 where
  pub changed : (m : ℕ) → m < n → cell_at new (place_at places m) ≡ change (cell_at old (place_at places m))
  pub others : (k : ℕ) → ((m : ℕ) → m < n → place_at places m ≢ k) → cell_at new k ≡ cell_at old k

-- the cell with one more entry in the room that it has
abbrev pub with_entry : IndexEntry → Cell → Cell
with_entry entry c = record { items = c.items ++ entry ∷ []; capacity = c.capacity }

-- the cell without the entries that do not pass the test
abbrev pub passing : (IndexEntry → Bool) → Cell → Cell
passing test c = record { items = filter test c.items; capacity = c.capacity }

-- cell i of a range from `first` on is the first that it has in common with the cells
-- from `low` on, where it is one of these
abbrev pub is_first_common : (first low i : ℕ) → Bool
is_first_common first low i = (i == first) || (i == low)

-- the n-th cell of the range is the first, in both directions, that it has in common with those of the box, where the
-- box stands there
abbrev pub is_first_at : Bounds → CellRange → ℕ → Bounds → Bool
is_first_at area range n box =
    is_first_common range.columns.first (column area box.low.x) (column_at range n)
    && is_first_common range.rows.first (row area box.low.y) (row_at range n)

-- the keys of the entries in the first n cells of a range, each from its first cell
abbrev pub gathered : Bounds → CellRange → List (List IndexEntry) → ℕ → List ℕ
gathered area range cells zero = []
gathered area range cells (suc n) =
    gathered area range cells n ++ map (λ entry. entry.key) (filter (λ entry. is_first_at area range n entry.bounds)
    (slice_index_or cells (number_at range n) []))

-- some cell of a span along an axis is from one cell to another
abbrev pub common_along : Span → (from to : ℕ) → Bool
common_along span from to = nat_lt (max span.first from) (min (span.first + span.count) (to + 1))

-- the box stands in some cell of the range
abbrev pub has_some_of : Bounds → CellRange → Bounds → Bool
has_some_of area range box =
    common_along range.columns (column area box.low.x) (column area box.high.x) && common_along range.rows
    (row area box.low.y) (row area box.high.y)
