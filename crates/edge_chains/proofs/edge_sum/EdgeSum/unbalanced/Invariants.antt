use Rattle.std.proofs.Common.{◌≡◌, ◌++◌, map}
use Rattle.edge_chains.proofs.nets.Unbalanced.{told}
use Rattle.edge_chains.proofs.edge_sum.EdgeSum.unbalanced.Given as goal

abbrev pub invariant-loop-a : goal.invariant-loop-a
invariant-loop-a g l = l.edges.items ++ map told l.a-iterator ≡ map told l.self.counts
