use Rattle.std.proofs.Common.{◌≡◌, ℕ, ◌<◌, length}
use Rattle.ring_core.specs.own.ByPlace.{edge_at}
use Rattle.ring_core.proofs.by_place.edges_in_order.Given as goal

abbrev pub invariant-loop-i : goal.invariant-loop-i
invariant-loop-i l = record {
  as_many : length l.edges.items ≡ l.i;
  each : (p : ℕ) → p < l.i → edge_at l.edges.items p ≡ p;
}
