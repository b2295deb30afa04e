use Rattle.fabric_core.proofs.places.InCells.{stands_where_it_reaches}
use Rattle.fabric_core.proofs.laws.an_id_stands_in_the_cells_that_its_row_reaches.Goals as goal

pub returns : goal.returns
returns c = stands_where_it_reaches
