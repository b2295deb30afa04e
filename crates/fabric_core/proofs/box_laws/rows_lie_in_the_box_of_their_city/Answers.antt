use Rattle.fabric_core.proofs.tilings.InTheCity.{rows_in_box}
use Rattle.fabric_core.specs.Tiling.{corner_lists}
use Rattle.fabric_core.proofs.rows.Alikes.{alike_from_nets}
use Rattle.fabric_core.proofs.tilings.Tilings.{noded_ground}
use Rattle.fabric_core.proofs.box_laws.rows_lie_in_the_box_of_their_city.Goals as goal

pub returns : goal.returns
returns c = λ rows city corners refined bounds simple noded nets. rows_in_box rows city refined bounds simple
    (noded_ground city corners refined noded) (alike_from_nets (corner_lists rows) refined nets)
