use Rattle.std.proofs.Common.{◌≡◌, length}
use Rattle.std.specs.List.{AllByRecursion}
use Rattle.parcel_table.specs.Table.{HasId}
use Rattle.fabric_core.specs.own.Lists.{replaced}
use Rattle.fabric_core.proofs.tiled.replace_all.Given as goal

abbrev pub invariant-loop-shape : goal.invariant-loop-shape
invariant-loop-shape g l = record {
  rest : l.parcels ≡ record l.fn.parcels { parcels = l.parcels.parcels };
  same_end : replaced l.left l.shape-iterator.rest.items l.parcels.parcels ≡ replaced l.fn.ids l.fn.shapes.items l.fn.parcels.parcels;
  same_length : length l.left ≡ length l.shape-iterator.rest.items;
  here : AllByRecursion (HasId l.parcels.parcels) l.left;
}
