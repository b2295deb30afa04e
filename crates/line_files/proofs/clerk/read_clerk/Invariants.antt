use Rattle.std.proofs.Common.{◌+◌, ◌≤◌, length}
use Rattle.line_files.specs.TextLines.{lines_of}
use Rattle.line_files.specs.Grids.{behind_grid}
use Rattle.line_files.specs.ClerkFile.{SaysEdit}
use Rattle.line_files.proofs.Said.{AreRead}
use Rattle.line_files.proofs.clerk.read_clerk.Given as goal

abbrev pub invariant-loop-rest : goal.invariant-loop-rest
invariant-loop-rest g l = record {
  read : AreRead (SaysEdit l.grid) (behind_grid (lines_of l.bytes)) (l.number + 1) (lines_of l.rest) l.list.items;
  counted : l.number + length l.rest ≤ length l.bytes;
}

abbrev pub decreases-loop-rest : goal.decreases-loop-rest
decreases-loop-rest g l = length l.rest
