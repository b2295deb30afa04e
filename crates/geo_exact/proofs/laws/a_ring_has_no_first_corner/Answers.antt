use Rattle.geo_exact.proofs.rings.Begun.{edges_begun}
use Rattle.geo_exact.proofs.rings.OnRings.{on_ring_begun}
use Rattle.geo_exact.proofs.rings.Windings.{winding_begun, area2_begun}
use Rattle.geo_exact.proofs.laws.a_ring_has_no_first_corner.Goals as goal

pub returns-clause-edges : goal.returns-clause-edges
returns-clause-edges c = edges_begun

pub returns-clause-winding_number : goal.returns-clause-winding_number
returns-clause-winding_number c = winding_begun

pub returns-clause-signed_area : goal.returns-clause-signed_area
returns-clause-signed_area c = area2_begun

pub returns-clause-boundary : goal.returns-clause-boundary
returns-clause-boundary c = on_ring_begun
