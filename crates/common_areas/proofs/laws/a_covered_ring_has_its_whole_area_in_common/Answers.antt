use Rattle.common_areas.proofs.Counted.{covered}
use Rattle.common_areas.proofs.laws.a_covered_ring_has_its_whole_area_in_common.Goals as goal

pub returns : goal.returns
returns c = covered
