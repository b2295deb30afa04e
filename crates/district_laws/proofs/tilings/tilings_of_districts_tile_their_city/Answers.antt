use Rattle.district_laws.specs.Districts.{all_rows}
use Rattle.district_laws.proofs.Composed.{all_tile}
use Rattle.district_laws.proofs.Sums.{renumbered}
use Rattle.district_laws.proofs.tilings.tilings_of_districts_tile_their_city.Goals as goal

pub returns : goal.returns
returns c = λ districts city rows h same. renumbered (all_rows districts) rows city same (all_tile districts city h)
