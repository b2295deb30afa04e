-- Texts of points (this product's own).
use Rattle.std.specs.Prelude.{◌≡◌, ℕ, ◌++◌, List, codes}
use Rattle.geo_exact.specs.declared.corner.Corner.{Corner}
use Rattle.line_files.specs.TextLines.{lines_of, AreSaid, IsFirstBad}
use Rattle.line_files.specs.Grids.{grid_of, behind_grid}
use Rattle.line_files.specs.TextNumbers.{IsCornerText}
use Rattle.line_files.specs.declared.grids.Grid.{Grid}

-- `X Y`, two coordinates with one space between them
pub record IsPointLine (grid : Grid) (line : List ℕ) (corner : Corner) : Type 0 where
  pub x : List ℕ
  pub y : List ℕ
  pub is_line : line ≡ x ++ codes " " ++ y
  pub is_corner : IsCornerText grid x y corner

-- the same, whatever the line's number
abbrev pub IsNumberedPointLine : Grid → ℕ → List ℕ → Corner → Type 0
IsNumberedPointLine grid number line corner = IsPointLine grid line corner

-- the points of a text's lines, in order, on the grid that its first line may name
abbrev pub ArePoints : List ℕ → List Corner → Type 0
ArePoints text points = AreSaid (IsNumberedPointLine (grid_of (lines_of text))) 1 (behind_grid (lines_of text)) points

-- the text's first line, counted from 1, that is neither skipped nor a point, nor names its grid
abbrev pub IsFirstBadPoint : List ℕ → ℕ → Type 0
IsFirstBadPoint text number =
    IsFirstBad (IsNumberedPointLine (grid_of (lines_of text))) 1 (behind_grid (lines_of text)) number
