use Rattle.std.proofs.Common.{◌≡◌, length, take}
use Rattle.cell_index.specs.own.Ranges.{contents, HaveRoomForAll}
use Rattle.cell_index.proofs.batch.make_room_for_all.Given as goal

abbrev pub invariant-loop-entry : goal.invariant-loop-entry
invariant-loop-entry g l = record {
  kept : contents l.cells ≡ contents l.initial.cells;
  room : HaveRoomForAll l.area (take l.entry-index l.come) (length l.come) l.cells;
}
