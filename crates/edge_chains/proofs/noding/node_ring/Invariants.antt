use Rattle.std.proofs.Common.{◌≡◌, List, ◌++◌, drop}
use Rattle.geo_exact.specs.declared.corner.Corner.{Corner}
use Rattle.geo_exact.specs.Rings.{path}
use Rattle.edge_chains.specs.Noding.{AreNodedEdges}
use Rattle.edge_chains.proofs.noding.node_ring.Given as goal

abbrev pub invariant-loop-at : goal.invariant-loop-at
invariant-loop-at g l = record {
  same : l.search ≡ l.fn.search;
  so_far : (others : List Corner) → AreNodedEdges l.fn.search (path l.from (drop l.at l.rest) l.first) others
      → AreNodedEdges l.fn.search (path l.first l.rest l.first) (l.noded.items ++ others);
}
