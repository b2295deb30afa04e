use Rattle.cell_index.proofs.Searches.{interiors_share_a_cell}
use Rattle.cell_index.proofs.laws.rings_whose_interiors_meet_share_a_cell.Goals as goal

pub returns : goal.returns
returns c = interiors_share_a_cell
