use Rattle.std.proofs.Common.{◌∙◌, ap, ◌+ℤ◌}
use Rattle.edge_chains.specs.Counts.{net_at}
use Rattle.edge_chains.proofs.nets.Changes.{net_of_turned}
use Rattle.edge_chains.proofs.edge_sum.count_edge.Goals as goal

pub returns-in-Taken-clause-net : goal.returns-in-Taken-clause-net
returns-in-Taken-clause-net g c = rw c.in-Taken.is (λ a b. c.count_directed-in-Taken.ensures.net a b
    ∙ ap (λ z. net_at c.args.numbers.now.entries a b +ℤ z) (net_of_turned c.args.from c.args.to a b))
