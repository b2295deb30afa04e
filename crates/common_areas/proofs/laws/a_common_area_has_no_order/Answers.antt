use Rattle.common_areas.proofs.Symmetry.{symmetric}
use Rattle.common_areas.proofs.laws.a_common_area_has_no_order.Goals as goal

pub returns : goal.returns
returns c = symmetric
