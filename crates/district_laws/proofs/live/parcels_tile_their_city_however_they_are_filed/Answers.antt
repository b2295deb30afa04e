use Rattle.std.proofs.Common.{List, ◌∙◌}
use Rattle.std.specs.List.{flat_map}
use Rattle.geo_exact.specs.Layers.{NumberedRing}
use Rattle.ring_core.specs.declared.triangle.Tri.{Tri}
use Rattle.ring_core.specs.Sums.{MakeUp}
use Rattle.fabric_core.proofs.tilings.Tilings.{tiles_where_nets_are_equal}
use Rattle.district_laws.proofs.Versions.{net_of_all, each_of_all}
use Rattle.district_laws.proofs.live.parcels_tile_their_city_however_they_are_filed.Goals as goal

pub returns : goal.returns
returns c = λ files city corners refined made once noded nets.
    tiles_where_nets_are_equal (flat_map (λ (file : List NumberedRing). file) files) city corners refined
    (each_of_all (λ (row : NumberedRing). (ts : List Tri) × MakeUp ts row.corners) files made) once noded
    (λ a b. net_of_all files a b ∙ nets a b)
