use Rattle.std.proofs.Common.{◌≡◌, ◌≤◌, ◌^◌, ℕ, None, length}
use Rattle.cell_index.specs.Cells.{Indexes}
use Rattle.fabric_core.specs.own.Lists.{corners_of_shapes}
use Rattle.parcel_table.specs.Table.{rows_of_keyed, entries_of, retired_by}
use Rattle.fabric_core.proofs.loads.Clipped.{AreClipped}
use Rattle.fabric_core.proofs.grid_index.enter_all.Given as goal

abbrev pub invariant-loop-shape : goal.invariant-loop-shape
invariant-loop-shape g l = record {
  clipped :
      AreClipped l.numbers (corners_of_shapes l.fn.shapes.items) (corners_of_shapes l.shape-iterator.rest.items)
      (rows_of_keyed l.parcels.parcels) l.parcels.next (length l.parcels.parcels);
  area : l.index.area ≡ l.fn.area;
  indexed : Indexes l.index (entries_of l.parcels.parcels);
  small : l.parcels.next ≤ 2 ^ 32;
  none_gone : (id : ℕ) → retired_by l.parcels id ≡ None;
}
