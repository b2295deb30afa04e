use Rattle.edge_chains.proofs.jumps.Jumps.{jump_beside}
use Rattle.edge_chains.proofs.laws.an_unbalanced_edge_is_a_jump.Goals as goal

pub returns : goal.returns
returns c = jump_beside
