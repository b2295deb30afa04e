use Rattle.std.proofs.Common.{◌≡◌, ◌++◌, vec_len}
use Rattle.edge_chains.specs.own.Slices.{AreOfSlices}
use Rattle.fabric_core.proofs.clipped.cut.Given as goal

abbrev pub invariant-loop-rings : goal.invariant-loop-rings
invariant-loop-rings g l = (more : _) → AreOfSlices (λ rings slice. slice.items ≡ rings) l.size l.rings.items more
    → AreOfSlices (λ rings slice. slice.items ≡ rings) l.size l.fn.rings.items (l.slices.items ++ more)

abbrev pub decreases-loop-rings : goal.decreases-loop-rings
decreases-loop-rings g l = vec_len l.rings
