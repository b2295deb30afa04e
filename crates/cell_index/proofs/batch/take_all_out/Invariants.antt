use Rattle.std.proofs.Common.{ℕ, List, take}
use Rattle.cell_index.specs.declared.entry.IndexEntry.{IndexEntry}
use Rattle.cell_index.specs.Cells.{without}
use Rattle.cell_index.specs.own.Ranges.{HaveRoomForAll, Keeps}
use Rattle.cell_index.proofs.batch.take_all_out.Given as goal

abbrev pub invariant-loop-entry : goal.invariant-loop-entry
invariant-loop-entry g l = record {
  kept : (entries : List IndexEntry) → Keeps l.area l.initial.cells entries
      → Keeps l.area l.cells (without (take l.entry-index l.gone) entries);
  room : (come : List IndexEntry) (count : ℕ) → HaveRoomForAll l.area come count l.initial.cells
      → HaveRoomForAll l.area come count l.cells;
}
