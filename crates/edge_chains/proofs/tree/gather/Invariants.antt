use Rattle.std.proofs.Common.{◌≡◌, ◌-◌, ◌≤◌, length, take}
use Rattle.std.specs.List.{filter}
use Rattle.edge_chains.specs.own.Inside.{is_strictly_inside}
use Rattle.edge_chains.proofs.tree.gather.Given as goal

abbrev pub invariant-loop-at : goal.invariant-loop-at
invariant-loop-at g l = record {
  in_range : l.at ≤ length l.corners;
  so_far : l.found.items ≡ filter (λ c. is_strictly_inside c l.a l.b) (take l.at l.corners);
}

abbrev pub decreases-loop-at : goal.decreases-loop-at
decreases-loop-at g l = length l.corners - l.at
