-- What the code tells of a text's grid.
use Rattle.std.specs.Prelude.{◌≡◌, ◌≤◌, ◌+◌, ℕ, Bool, true, false, List, [], ◌∷◌, length, if◌then◌else◌}
use Rattle.line_files.specs.TextLines.{lines_of}
use Rattle.line_files.specs.Grids.{grid_of, behind_grid}
use Rattle.line_files.specs.declared.grids.Grid.{Grid}
use Rattle.line_files.specs.declared.grids.Grid.TheVariants.{Millimetres, Centimetres}

-- whether a text's first line names the grid
abbrev pub is_named : Grid → Bool
is_named Millimetres = false
is_named Centimetres = true

-- the text is on this grid, and rest is what stands behind the line that names it
pub record IsBehindGrid (text : List ℕ) (grid : Grid) (rest : List ℕ) : Type 0 where
  pub is_grid : grid ≡ grid_of (lines_of text)
  pub are_lines : behind_grid (lines_of text) ≡ (if is_named grid then [] ∷ lines_of rest else lines_of rest)
  pub is_shorter : (if is_named grid then 1 else 0) + length rest ≤ length text
