use Rattle.std.proofs.Common.{◌≡◌}
use Rattle.edge_chains.specs.own.Slices.{AreJoined}
use Rattle.fabric_core.specs.own.Lists.{numbered_rows}
use Rattle.fabric_core.specs.own.RingSlices.{IsCheckedSlice}
use Rattle.fabric_core.proofs.rings.joined.Given as goal

abbrev pub invariant-loop-slice : goal.invariant-loop-slice
invariant-loop-slice g l =
    AreJoined (λ row ring. ring.corners ≡ row.corners) (λ rows result. IsCheckedSlice rows result)
    l.size (numbered_rows l.numbers l.whole.value.items) l.slice-iterator.rest.items l.checked.items
