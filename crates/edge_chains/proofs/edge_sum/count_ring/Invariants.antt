use Rattle.std.proofs.Common.{◌≡◌, ℕ, ◌+◌, ◌≤◌, ◌+ℤ◌, drop}
use Rattle.std.specs.HashMap.{spare}
use Rattle.geo_exact.specs.declared.corner.Corner.{Corner}
use Rattle.geo_exact.specs.Rings.{path}
use Rattle.edge_chains.specs.Counts.{net_at, AreCounts}
use Rattle.edge_chains.specs.Net.{net_of_edges}
use Rattle.edge_chains.specs.own.Sides.{signed}
use Rattle.edge_chains.proofs.edge_sum.count_ring.Given as goal

abbrev pub invariant-loop-to : goal.invariant-loop-to
invariant-loop-to g l = record {
  so_far : (a b : Corner) → net_at l.numbers.entries a b +ℤ signed l.side
      (net_of_edges (path l.from (drop l.to-index l.rest) l.first) a b)
      ≡ net_at l.initial.numbers.entries a b +ℤ signed l.side (net_of_edges (path l.first l.rest l.first) a b);
  kept : (n : ℕ) → AreCounts l.initial.numbers.entries n → AreCounts l.numbers.entries (n + l.to-index);
  room : spare l.initial.numbers ≤ spare l.numbers + l.to-index;
}
