use Rattle.common_areas.proofs.FineGrids.{fine_grid}
use Rattle.common_areas.proofs.laws.a_fine_grid_is_there.Goals as goal

pub returns : goal.returns
returns c = fine_grid
