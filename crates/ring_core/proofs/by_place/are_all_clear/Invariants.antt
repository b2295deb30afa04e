use Rattle.std.proofs.Common.{ℕ, ◌<◌, ◌≤◌, ◌*◌, length}
use Rattle.ring_core.specs.own.ByPlace.{AreClear, edge_at}
use Rattle.ring_core.proofs.by_place.are_all_clear.Given as goal

abbrev pub invariant-loop-b : goal.invariant-loop-b
invariant-loop-b l = (p q : ℕ) → p < 8 * l.b → p ≤ q → q < length l.edges
    → AreClear l.ring (edge_at l.edges p) (edge_at l.edges q)
