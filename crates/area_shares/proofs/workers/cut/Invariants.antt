use Rattle.std.proofs.Common.{◌≡◌, ◌++◌}
use Rattle.zone_tables.specs.Overlap.{AreInPairOrder}
use Rattle.area_shares.specs.own.Slices.{AreInSlices}
use Rattle.area_shares.proofs.workers.cut.Given as goal

abbrev pub invariant-loop : goal.invariant-loop
invariant-loop g l = record {
  ascend : AreInPairOrder l.rest;
  so_far : (more : _) → AreInSlices (λ here slice. slice.now ≡ here) l.rest more
      → AreInSlices (λ here slice. slice.now ≡ here) l.pairs (l.slices.items ++ more);
}
