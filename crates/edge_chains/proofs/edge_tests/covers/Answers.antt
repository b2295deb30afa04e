use Rattle.std.proofs.Common.{sym, ◌∙◌}
use Rattle.edge_chains.proofs.edges.Inside.{covered}
use Rattle.edge_chains.proofs.edge_tests.covers.Goals as goal

pub returns-then-holds : goal.returns-then-holds
returns-then-holds c = λ t. covered c.args.bounds c.args.a c.args.b (sym c.holds.ensures ∙ c.if-holds.true)
    (sym c.holds-then-holds.ensures ∙ t)
