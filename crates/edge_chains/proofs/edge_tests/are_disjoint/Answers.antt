use Rattle.edge_chains.proofs.edges.Inside.{none_off}
use Rattle.edge_chains.proofs.edge_tests.are_disjoint.Goals as goal

pub returns : goal.returns
returns c = none_off c.may_meet.result c.args.one c.args.other c.may_meet.ensures
