use Rattle.cell_index.proofs.CellsKept.{standing_counts}
use Rattle.cell_index.proofs.laws.in_each_cell_stand_the_entries_of_its_boxes.Goals as goal

pub returns : goal.returns
returns c = standing_counts
