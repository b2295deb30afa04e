use Rattle.common_areas.proofs.Cells.{common_is}
use Rattle.common_areas.proofs.laws.common_areas_are_counts_of_cells.Goals as goal

pub returns-clause-count : goal.returns-clause-count
returns-clause-count c = λ r s grid m n fine wide. (common_is r s grid m n fine wide).value

pub returns-clause-fraction : goal.returns-clause-fraction
returns-clause-fraction c = λ r s grid m n fine wide. (common_is r s grid m n fine wide).positive
