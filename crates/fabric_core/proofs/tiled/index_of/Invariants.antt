use Rattle.std.proofs.Common.{◌≡◌}
use Rattle.fabric_core.proofs.tens.Kept.{AreIndexed}
use Rattle.fabric_core.proofs.tiled.index_of.Given as goal

abbrev pub invariant-loop-id : goal.invariant-loop-id
invariant-loop-id g l = record {
  area : l.index.area ≡ l.fn.area;
  indexed : AreIndexed l.parcels.parcels l.index l.id-iterator;
}
