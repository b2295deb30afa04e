use Rattle.std.proofs.Common.{ℕ, ◌<◌, ◌≤◌}
use Rattle.ring_core.specs.own.ByPlace.{AreClear, edge_at}
use Rattle.ring_core.specs.own.Blocks.{IsInSpan}
use Rattle.ring_core.proofs.by_place.are_clear.Given as goal

abbrev pub invariant-loop-q : goal.invariant-loop-q
invariant-loop-q l = (p k : ℕ) → IsInSpan p l.one → l.fn.other.start ≤ k → k < l.q → AreClear l.ring (edge_at l.edges p) (edge_at l.edges k)
