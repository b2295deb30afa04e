use Rattle.edge_chains.proofs.edges.Inside.{none_past}
use Rattle.edge_chains.proofs.edge_tests.is_past.Goals as goal

pub returns : goal.returns
returns c = none_past c.edge_boxes_meet.result c.args.bounds c.args.a c.args.b c.edge_boxes_meet.ensures.1
