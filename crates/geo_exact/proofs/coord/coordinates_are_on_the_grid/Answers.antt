use Rattle.geo_exact.proofs.doubles.Coordinates.{accepted_iff}
use Rattle.geo_exact.proofs.coord.coordinates_are_on_the_grid.Goals as goal

pub returns : goal.returns
returns c = accepted_iff
