use Rattle.edge_chains.proofs.nets.Balance.{winding_of_rings-balanced, area2_of_rings-balanced}
use Rattle.edge_chains.proofs.laws.equal_nets_cover_alike.Goals as goal

pub returns-clause-windings : goal.returns-clause-windings
returns-clause-windings c = winding_of_rings-balanced

pub returns-clause-areas : goal.returns-clause-areas
returns-clause-areas c = area2_of_rings-balanced
