use Rattle.std.proofs.Common.{◌-◌, ◌≤◌, length}
use Rattle.edge_chains.proofs.edges.OnLines.{AreOnly, HasUpTo}
use Rattle.edge_chains.proofs.lines.between.Given as goal

abbrev pub invariant-loop-at : goal.invariant-loop-at
invariant-loop-at g l = record {
  in_range : l.at ≤ length l.ranked;
  only : AreOnly l.ranked l.low.corner l.high.corner l.found.items;
  has : HasUpTo l.ranked l.low.corner l.high.corner l.initial.at l.at l.found.items;
}

abbrev pub decreases-loop-at : goal.decreases-loop-at
decreases-loop-at g l = length l.ranked - l.at
