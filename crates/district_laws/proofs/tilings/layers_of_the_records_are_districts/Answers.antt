use Rattle.fabric_core.specs.Rows.{corners_of_layer}
use Rattle.district_laws.proofs.OwnLayers.{row_covers, are_districts}
use Rattle.district_laws.proofs.tilings.layers_of_the_records_are_districts.Goals as goal

pub returns-clause-covers : goal.returns-clause-covers
returns-clause-covers c = row_covers

pub returns-clause-districts : goal.returns-clause-districts
returns-clause-districts c = λ records city refined districts rows tiling layers. record {
  tiling = tiling;
  each = are_districts (corners_of_layer records city) records districts rows.are_rows layers;
}
