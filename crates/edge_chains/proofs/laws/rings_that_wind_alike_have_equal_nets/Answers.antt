use Rattle.edge_chains.proofs.jumps.Alike.{nets_alike}
use Rattle.edge_chains.proofs.laws.rings_that_wind_alike_have_equal_nets.Goals as goal

pub returns : goal.returns
returns c = nets_alike
