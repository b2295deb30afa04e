use Rattle.fabric_core.proofs.tilings.Tilings.{untiled_beside, no_tiling_beside}
use Rattle.fabric_core.proofs.laws.an_unbalanced_edge_is_no_tiling.Goals as goal

pub returns-clause-beside : goal.returns-clause-beside
returns-clause-beside c = untiled_beside

pub returns-clause-no_tiling : goal.returns-clause-no_tiling
returns-clause-no_tiling c = no_tiling_beside
