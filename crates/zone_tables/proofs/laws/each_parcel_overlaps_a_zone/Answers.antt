use Rattle.zone_tables.proofs.Zones.{overlaps_some}
use Rattle.zone_tables.proofs.laws.each_parcel_overlaps_a_zone.Goals as goal

pub returns : goal.returns
returns c = λ rows zones city id simple tiling others here. overlaps_some rows zones city tiling others simple id here
