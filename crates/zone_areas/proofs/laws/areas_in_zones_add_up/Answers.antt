use Rattle.common_areas.proofs.Counted.{additive, added_to_whole}
use Rattle.fabric_core.specs.Tiling.{corner_lists}
use Rattle.zone_areas.proofs.Tiled.{made_up}
use Rattle.zone_areas.proofs.laws.areas_in_zones_add_up.Goals as goal

pub returns-clause-in_city : goal.returns-clause-in_city
returns-clause-in_city c = λ parcel city zones tiling. additive parcel city (corner_lists zones) (made_up zones city tiling)

pub returns-clause-whole : goal.returns-clause-whole
returns-clause-whole c = λ parcel city zones tiling once covered.
    added_to_whole parcel city (corner_lists zones) (made_up zones city tiling) once covered
