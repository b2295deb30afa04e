use Rattle.std.proofs.Common.{◌≡◌, drop}
use Rattle.std.specs.List.{list_any}
use Rattle.geo_exact.specs.Rings.{edges}
use Rattle.ring_edits.specs.Edits.{joins, has_edge_between}
use Rattle.fabric_core.proofs.ring_edges.has_edge.Given as goal

abbrev pub invariant-loop-i : goal.invariant-loop-i
invariant-loop-i l = list_any (joins l.from l.to) (drop l.i (edges l.ring)) ≡ has_edge_between l.from l.to l.ring
