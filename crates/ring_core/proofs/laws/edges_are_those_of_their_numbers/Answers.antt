use Rattle.geo_exact.proofs.rings.Begun.{ring_count}
use Rattle.ring_core.proofs.edges.EdgeNumbers.{on_ring_by_number, ring_joins}
use Rattle.ring_core.proofs.laws.edges_are_those_of_their_numbers.Goals as goal

pub returns-clause-as_many : goal.returns-clause-as_many
returns-clause-as_many c = ring_count

pub returns-clause-joined : goal.returns-clause-joined
returns-clause-joined c = ring_joins

pub returns-clause-points : goal.returns-clause-points
returns-clause-points c = on_ring_by_number
