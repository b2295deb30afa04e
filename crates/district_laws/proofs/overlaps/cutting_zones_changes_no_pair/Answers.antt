use Rattle.district_laws.specs.Districts.{all_rows}
use Rattle.district_laws.specs.Zones.{parcel_layers, zone_layers}
use Rattle.district_laws.proofs.Overlapped.{overlaps_pieces, overlaps_in_one, same_zones}
use Rattle.district_laws.proofs.overlaps.cutting_zones_changes_no_pair.Goals as goal

pub returns-clause-pieces : goal.returns-clause-pieces
returns-clause-pieces c = λ rows zones id zone cut. overlaps_pieces zones cut rows id zone

pub returns-clause-districts : goal.returns-clause-districts
returns-clause-districts c = λ districts city zones id zone h cut same.
    let rows = all_rows (parcel_layers districts) in (
      λ o. (overlaps_in_one districts city h id zone).0
          (same_zones rows (all_rows zones) (all_rows (zone_layers districts)) (λ piece k. (same piece).0 k) id zone
          ((overlaps_pieces zones cut rows id zone).1 o)),
      λ w. (overlaps_pieces zones cut rows id zone).0
          (same_zones rows (all_rows (zone_layers districts)) (all_rows zones) (λ piece k. (same piece).1 k) id zone
          ((overlaps_in_one districts city h id zone).1 w)),
    )
