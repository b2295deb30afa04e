use Rattle.fabric_core.proofs.tilings.OnOneOnly.{in_no_other, in_the_city, on_no_edge}
use Rattle.fabric_core.proofs.laws.what_is_inside_a_parcel_is_in_no_other.Goals as goal

pub returns-clause-edges : goal.returns-clause-edges
returns-clause-edges c = λ rows city p id other simple tiling h. on_no_edge rows city simple tiling p id other h

pub returns-clause-others : goal.returns-clause-others
returns-clause-others c = λ rows city p id other simple tiling h k. in_no_other rows city simple tiling p id other h k

pub returns-clause-city : goal.returns-clause-city
returns-clause-city c = λ rows city p id simple tiling h. in_the_city rows city simple tiling p id h
