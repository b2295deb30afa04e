use Rattle.std.proofs.Common.{ℕ, ◌<◌, ◌≤◌}
use Rattle.ring_core.specs.own.ByPlace.{AreClear, edge_at}
use Rattle.ring_core.proofs.by_place.one_meets.Given as goal

abbrev pub invariant-loop-p : goal.invariant-loop-p
invariant-loop-p l = (k : ℕ) → l.fn.span.start ≤ k → k < l.p → AreClear l.ring (edge_at l.edges k) l.j
