use Rattle.fabric_core.proofs.tilings.Tilings.{tiles_where_nets_are_equal}
use Rattle.fabric_core.proofs.laws.rows_with_the_nets_of_a_city_tile_it.Goals as goal

pub returns : goal.returns
returns c = tiles_where_nets_are_equal
