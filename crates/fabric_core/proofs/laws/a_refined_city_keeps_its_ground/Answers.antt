use Rattle.edge_chains.proofs.nodings.NodedRings.{winding_noded, boundary_noded, area2_noded}
use Rattle.fabric_core.specs.Rows.{corners_of_layer}
use Rattle.fabric_core.proofs.laws.a_refined_city_keeps_its_ground.Goals as goal

pub returns-clause-windings : goal.returns-clause-windings
returns-clause-windings c records rows city refined p h = winding_noded p city (corners_of_layer records city) refined h.is_refined

pub returns-clause-boundary : goal.returns-clause-boundary
returns-clause-boundary c records rows city refined p h = boundary_noded p city (corners_of_layer records city) refined h.is_refined

pub returns-clause-area : goal.returns-clause-area
returns-clause-area c records rows city refined h = area2_noded city (corners_of_layer records city) refined h.is_refined
