-- A grid so fine that areas are counts of its cells (this product's own).
use Rattle.std.specs.Prelude.{◌≡◌, ◌⊎◌, ℕ, zero, suc, ℤ, pos, negsuc, ◌+ℤ◌, ◌-ℤ◌, ◌*ℤ◌, ◌<ℤ◌, ◌≤ℤ◌, List}
use Rattle.std.specs.List.{AllByRecursion}
use Rattle.geo_exact.specs.declared.corner.Corner.{Corner}
use Rattle.geo_exact.specs.Limit.{limit}
use Rattle.geo_exact.specs.Point.{Point}
use Rattle.geo_exact.specs.Rings.{Edge}
use Rattle.geo_exact.specs.Winding.{winding}
use Rattle.common_areas.specs.Between.{rise}

-- f (-n) + .. + f (n - 1)
abbrev pub sum_around : ℕ → (ℤ → ℤ) → ℤ
sum_around zero f = pos 0
sum_around (suc n) f = sum_around n f +ℤ f (pos n) +ℤ f (negsuc n)

-- so many rows to a millimetre of height, and columns to one of width; d is twice the number of both together
pub record Grid : Type 0 where
  pub rows : ℤ
  pub columns : ℤ
  pub d : ℤ
  pub d_is : d ≡ pos 2 *ℤ columns *ℤ rows
  pub rows_positive : pos 0 <ℤ rows
  pub d_positive : pos 0 <ℤ d

-- the middle of the cell in column j and row k: the point ((j + 1/2) / columns, (k + 1/2) / rows)
abbrev pub middle : Grid → ℤ → ℤ → Point
middle grid j k = record {
  x = (pos 2 *ℤ j +ℤ pos 1) *ℤ grid.rows;
  y = (pos 2 *ℤ k +ℤ pos 1) *ℤ grid.columns;
  d = grid.d;
  d_positive = grid.d_positive;
}

-- b is a multiple of a
pub record Divides (a b : ℤ) : Type 0 where
  pub factor : ℤ
  pub is : b ≡ a *ℤ factor

-- The edge is level, or at the middle of each row it is at a border of columns: for a millimetre that it rises, share
-- columns make half a row's worth of the columns.
pub record IsShare (grid : Grid) (e : Edge) (share : ℤ) : Type 0 where
  pub divides : (rise e ≡ pos 0) ⊎ (grid.columns ≡ pos 2 *ℤ grid.rows *ℤ rise e *ℤ share)

-- how fast the two edges part
abbrev pub parting : Edge → Edge → ℤ
parting e f =
    (e.to.x -ℤ e.from.x) *ℤ (f.to.y -ℤ f.from.y) -ℤ (f.to.x -ℤ f.from.x) *ℤ (e.to.y -ℤ e.from.y)

-- the lines of the edges are parallel, or they cross at a border of rows
abbrev pub SuitsPair : Grid → Edge → Edge → Type 0
SuitsPair grid e f = (parting e f ≡ pos 0) ⊎ Divides (parting e f) grid.rows

-- the grid is fine enough for these edges with those
pub record IsFine (grid : Grid) (es fs : List Edge) : Type 0 where
  pub share : Edge → ℤ
  pub first : AllByRecursion (λ e. IsShare grid e (share e)) es
  pub second : AllByRecursion (λ f. IsShare grid f (share f)) fs
  pub pairs : AllByRecursion (λ e. AllByRecursion (SuitsPair grid e) fs) es

-- m columns and n rows on either side of 0 reach as far as the limit of coordinates
pub record Reaches (grid : Grid) (m n : ℕ) : Type 0 where
  pub across : (pos limit *ℤ grid.columns) ≤ℤ pos m
  pub up : (pos limit *ℤ grid.rows) ≤ℤ pos n

-- the sum over the cells of the product of the two winding numbers round the cell's middle
abbrev pub cells : Grid → ℕ → ℕ → List Corner → List Corner → ℤ
cells grid m n r s =
    sum_around n (λ k. sum_around m (λ j. winding (middle grid j k) r *ℤ winding (middle grid j k) s))
