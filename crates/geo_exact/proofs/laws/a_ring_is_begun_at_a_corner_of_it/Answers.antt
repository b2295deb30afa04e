use Rattle.geo_exact.proofs.rings.Begun.{least_within}
use Rattle.geo_exact.proofs.laws.a_ring_is_begun_at_a_corner_of_it.Goals as goal

pub returns : goal.returns
returns c = least_within
