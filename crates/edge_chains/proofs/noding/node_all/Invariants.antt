use Rattle.std.proofs.Common.{◌≡◌, take}
use Rattle.std.specs.List.{AllZip}
use Rattle.edge_chains.specs.Noding.{IsNoded}
use Rattle.edge_chains.proofs.noding.node_all.Given as goal

abbrev pub invariant-loop-ring : goal.invariant-loop-ring
invariant-loop-ring g l = record {
  same : l.search ≡ l.blocks;
  so_far : AllZip (λ ring out. IsNoded ring l.blocks out) (take l.ring-index l.rings) l.noded.items;
}
