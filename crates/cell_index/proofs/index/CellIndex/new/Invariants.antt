use Rattle.std.proofs.Common.{◌≡◌, length, []}
use Rattle.std.specs.List.{All}
use Rattle.cell_index.proofs.index.CellIndex.new.Given as goal

abbrev pub invariant-loop : goal.invariant-loop
invariant-loop g l = record {
  so_many : length l.cells.items ≡ l.counter;
  empty : All (λ c. c.items ≡ []) l.cells.items;
}
