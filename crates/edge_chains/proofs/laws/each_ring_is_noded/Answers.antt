use Rattle.edge_chains.proofs.nodings.EachNoded.{each_noded}
use Rattle.edge_chains.proofs.laws.each_ring_is_noded.Goals as goal

pub returns : goal.returns
returns c = each_noded
