use Rattle.std.proofs.Common.{◌≡◌, ◌++◌}
use Rattle.geo_exact.specs.Layers.{rings_of}
use Rattle.fabric_core.specs.Tiling.{corner_lists}
use Rattle.fabric_core.specs.Rows.{numbers}
use Rattle.fabric_core.proofs.refine.numbers_and_rings.Given as goal

abbrev pub invariant-loop-record : goal.invariant-loop-record
invariant-loop-record g l = record {
  numbers : l.numbers.items ++ numbers (rings_of l.record-iterator.rest.items) ≡ numbers (rings_of l.fn.records.items);
  rings : l.rings.items ++ corner_lists (rings_of l.record-iterator.rest.items) ≡ corner_lists (rings_of l.fn.records.items);
}
