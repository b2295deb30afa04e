use Rattle.std.proofs.Common.{◌+◌, ◌≤◌, length}
use Rattle.line_files.specs.TextLines.{lines_of}
use Rattle.line_files.specs.Grids.{behind_grid}
use Rattle.line_files.specs.PointLines.{IsNumberedPointLine}
use Rattle.line_files.proofs.Said.{AreRead}
use Rattle.line_files.proofs.points.read_points.Given as goal

abbrev pub invariant-loop-rest : goal.invariant-loop-rest
invariant-loop-rest g l = record {
  read : AreRead (IsNumberedPointLine l.grid) (behind_grid (lines_of l.text)) (l.number + 1) (lines_of l.rest) l.points.items;
  counted : l.number + length l.rest ≤ length l.text;
}

abbrev pub decreases-loop-rest : goal.decreases-loop-rest
decreases-loop-rest g l = length l.rest
