use Rattle.std.proofs.Common.{◌≡◌, ◌-◌, ◌≤◌, length, take}
use Rattle.std.specs.List.{filter}
use Rattle.geo_exact.specs.Bounds.{holds_corner}
use Rattle.edge_chains.proofs.blocks.collect_few.Given as goal

abbrev pub invariant-loop-at : goal.invariant-loop-at
invariant-loop-at g l = record {
  in_range : l.at ≤ length l.corners;
  so_far : l.found.items ≡ filter (λ c. holds_corner l.bounds c) (take l.at l.corners);
}

abbrev pub decreases-loop-at : goal.decreases-loop-at
decreases-loop-at g l = length l.corners - l.at
