use Rattle.std.proofs.Common.{◌≡◌, take}
use Rattle.cell_index.specs.own.Ranges.{contents}
use Rattle.cell_index.proofs.index.CellIndexClone.clone.Given as goal

abbrev pub invariant-loop-cell : goal.invariant-loop-cell
invariant-loop-cell g l = contents l.cells.items ≡ take l.cell-index (contents l.self-inside.cells.items)
