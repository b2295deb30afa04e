use Rattle.std.proofs.Common.{◌≡◌, IfOk}
use Rattle.edge_chains.specs.own.Slices.{AreJoined}
use Rattle.fabric_core.specs.own.Lists.{AreShapesOfRings}
use Rattle.fabric_core.proofs.clipped.joined.Given as goal

abbrev pub invariant-loop-slice : goal.invariant-loop-slice
invariant-loop-slice g l =
    AreJoined (λ ring shape. shape.ring.corners ≡ ring.corners)
    (λ slice result. IfOk result (λ shapes. AreShapesOfRings slice shapes.items))
    l.size l.whole.value.items l.slice-iterator.rest.items l.all.items
