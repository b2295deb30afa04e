use Rattle.geo_exact.proofs.rings.Wedges.{outside_wedge}
use Rattle.geo_exact.proofs.laws.a_ring_does_not_go_round_what_its_least_corner_sees_outside.Goals as goal

pub returns : goal.returns
returns c = outside_wedge
