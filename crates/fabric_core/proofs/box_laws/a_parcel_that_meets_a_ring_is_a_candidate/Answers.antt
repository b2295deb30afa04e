use Rattle.fabric_core.proofs.places.Between.{meeting_in_city}
use Rattle.fabric_core.proofs.box_laws.a_parcel_that_meets_a_ring_is_a_candidate.Goals as goal

pub returns : goal.returns
returns c = meeting_in_city
