use Rattle.std.proofs.lemmas.Result.{IfOk-weaker}
use Rattle.edge_chains.proofs.edges.OnSteps.{inside_turned}
use Rattle.edge_chains.proofs.far.Far.inside.Goals as goal

pub returns-then-comes_before-clause-found : goal.returns-then-comes_before-clause-found
returns-then-comes_before-clause-found g c =
    IfOk-weaker c.rising.result _ _ (λ found h. inside_turned c.args.self.now c.args.a c.args.b found.items h) c.rising.ensures.found
