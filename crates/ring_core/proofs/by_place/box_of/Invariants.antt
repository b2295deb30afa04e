use Rattle.std.proofs.Common.{ℕ, ◌<◌, ◌≤◌}
use Rattle.ring_core.specs.own.ByPlace.{HoldsEdge, edge_at}
use Rattle.ring_core.proofs.by_place.box_of.Given as goal

abbrev pub invariant-loop-p : goal.invariant-loop-p
invariant-loop-p l = (k : ℕ) → l.start ≤ k → k < l.p → HoldsEdge l.held l.ring (edge_at l.edges k)
