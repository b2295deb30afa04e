use Rattle.std.proofs.Common.{◌≡◌}
use Rattle.cell_index.specs.own.Ranges.{contents, HaveRoom, KeepRoom}
use Rattle.cell_index.proofs.cells.make_room.Given as goal

abbrev pub invariant-loop-n : goal.invariant-loop-n
invariant-loop-n g l = record {
  kept : contents l.cells ≡ contents l.initial.cells;
  room : HaveRoom l.places l.n l.count l.cells;
  no_less : KeepRoom l.initial.cells l.cells;
}
