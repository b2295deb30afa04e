use Rattle.std.proofs.Common.{◌-◌, ◌++◌, List, length, take}
use Rattle.cell_index.specs.declared.entry.IndexEntry.{IndexEntry}
use Rattle.cell_index.specs.own.Ranges.{HaveRoomForAll, Keeps}
use Rattle.cell_index.proofs.batch.push_all_in.Given as goal

abbrev pub invariant-loop-entry : goal.invariant-loop-entry
invariant-loop-entry g l = record {
  kept : (entries : List IndexEntry) → Keeps l.area l.initial.cells entries → Keeps l.area l.cells (entries ++ take l.entry-index l.come);
  room : HaveRoomForAll l.area l.come (length l.come - l.entry-index) l.cells;
}
