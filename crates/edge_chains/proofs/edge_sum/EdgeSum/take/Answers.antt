use Rattle.edge_chains.proofs.nets.Nets.{AreNetOf-taken}
use Rattle.edge_chains.proofs.nets.Changes.{on_ok_too}
use Rattle.edge_chains.proofs.edge_sum.EdgeSum.take.Goals as goal

pub returns-clause-net_so_far : goal.returns-clause-net_so_far
returns-clause-net_so_far g c =
    on_ok_too _ _ c.count.result (AreNetOf-taken c.args.self.now c.count.new.self c.args.ring.now) c.count.ensures.net
