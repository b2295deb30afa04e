use Rattle.edge_chains.proofs.nodings.NodedRings.{winding_noded, boundary_noded, area2_noded, AreFullyNoded-noded}
use Rattle.edge_chains.proofs.laws.noding_changes_no_ground.Goals as goal

pub returns-clause-windings : goal.returns-clause-windings
returns-clause-windings c = winding_noded

pub returns-clause-boundaries : goal.returns-clause-boundaries
returns-clause-boundaries c = boundary_noded

pub returns-clause-areas : goal.returns-clause-areas
returns-clause-areas c = area2_noded

pub returns-clause-cuts : goal.returns-clause-cuts
returns-clause-cuts c = AreFullyNoded-noded
