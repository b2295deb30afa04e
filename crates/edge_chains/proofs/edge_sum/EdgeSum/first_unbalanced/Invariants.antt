use Rattle.std.proofs.Common.{◌≡◌, ◌++◌, List, ℤ}
use Rattle.geo_exact.specs.declared.corner.Corner.{Corner}
use Rattle.edge_chains.proofs.nets.Firsts.{IsFirstOf}
use Rattle.edge_chains.proofs.edge_sum.EdgeSum.first_unbalanced.Given as goal

abbrev pub invariant-loop-edge : goal.invariant-loop-edge
invariant-loop-edge g l =
    (done : List ((Corner × Corner) × ℤ)) × (done ++ l.edge-iterator ≡ l.self.counts) × IsFirstOf l.self.counts l.first done
