use Rattle.std.proofs.Common.{◌≡◌, []}
use Rattle.fabric_core.specs.declared.all_faults.Asked.{Asked}
use Rattle.fabric_core.proofs.loads.ToldRings.{AreLookedAt}
use Rattle.fabric_core.proofs.rings.checked.Given as goal

abbrev pub invariant-loop-corners : goal.invariant-loop-corners
invariant-loop-corners g l = record {
  looked_at : AreLookedAt l.numbers l.fn.rings.items l.corners-iterator.rest.items l.checked.items l.faults.items;
  none_told : l.asked ≡ Asked.First → l.faults.items ≡ [];
}
