use Rattle.common_areas.proofs.Counted.{additive}
use Rattle.common_areas.proofs.laws.common_areas_add_up.Goals as goal

pub returns : goal.returns
returns c = additive
