use Rattle.std.proofs.Common.{ℕ, ◌<◌, ◌≤◌, ◌*◌, ◌+◌, length}
use Rattle.ring_core.specs.own.ByPlace.{AreClear, edge_at}
use Rattle.ring_core.proofs.by_place.is_clear_from.Given as goal

abbrev pub invariant-loop-c : goal.invariant-loop-c
invariant-loop-c l = (p q : ℕ) → 8 * l.b ≤ p → p < 8 * l.b + 8 → p < length l.edges → 8 * l.b ≤ q → q < 8 * l.c → q < length l.edges
    → AreClear l.ring (edge_at l.edges p) (edge_at l.edges q)
