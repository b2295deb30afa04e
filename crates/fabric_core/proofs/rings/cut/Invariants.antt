use Rattle.std.proofs.Common.{◌≡◌, ◌≤◌, ◌++◌, length, vec_len}
use Rattle.std.specs.List.{AllByRecursion}
use Rattle.geo_exact.specs.declared.limits.TheConstants.{RING_CORNERS}
use Rattle.edge_chains.specs.own.Slices.{AreOfSlices}
use Rattle.fabric_core.specs.own.Lists.{numbered_rows}
use Rattle.fabric_core.specs.own.RingSlices.{IsSliceOf}
use Rattle.fabric_core.proofs.rings.cut.Given as goal

abbrev pub invariant-loop-rings : goal.invariant-loop-rings
invariant-loop-rings g l = record {
  numbered : length l.left ≡ length l.rings.items;
  short : AllByRecursion (λ ring. length ring ≤ RING_CORNERS) l.rings.items;
  so_far : (more : _) → AreOfSlices (λ rows slice. IsSliceOf rows slice.numbers.now slice.rings.items) l.size
      (numbered_rows l.left l.rings.items) more
      → AreOfSlices (λ rows slice. IsSliceOf rows slice.numbers.now slice.rings.items) l.size
      (numbered_rows l.numbers l.fn.rings.items) (l.slices.items ++ more);
}

abbrev pub decreases-loop-rings : goal.decreases-loop-rings
decreases-loop-rings g l = vec_len l.rings
