use Rattle.cell_index.proofs.Searches.{off_what_stands_elsewhere}
use Rattle.cell_index.proofs.laws.a_corner_is_off_what_does_not_stand_in_its_cell.Goals as goal

pub returns : goal.returns
returns c = off_what_stands_elsewhere
