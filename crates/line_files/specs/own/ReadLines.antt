-- What the code tells a line of points to be.
use Rattle.std.specs.Prelude.{ℕ, List}
use Rattle.line_files.specs.TextLines.{IsSkipped, IsBad}
use Rattle.line_files.specs.PointLines.{IsPointLine, IsNumberedPointLine}
use Rattle.line_files.specs.declared.grids.Grid.{Grid}
use Rattle.line_files.specs.declared.points.Line.{Line}
use Rattle.line_files.specs.declared.points.Line.TheVariants.{Skipped, Point, Bad}

-- the line is skipped, this point, or neither
abbrev pub IsLine : Grid → List ℕ → Line → Type 0
IsLine grid line Skipped = IsSkipped line
IsLine grid line (Point corner) = (¬ IsSkipped line) × IsPointLine grid line corner
IsLine grid line Bad = (number : ℕ) → IsBad (IsNumberedPointLine grid) number line
