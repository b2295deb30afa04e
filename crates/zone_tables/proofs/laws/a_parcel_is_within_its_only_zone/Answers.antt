use Rattle.zone_tables.proofs.Zones.{within_its_only, overlaps_alone}
use Rattle.zone_tables.proofs.laws.a_parcel_is_within_its_only_zone.Goals as goal

pub returns : goal.returns
returns c = λ rows zones city id zone simple tiling others up zones_up. (
  overlaps_alone rows zones city tiling others up zones_up simple id zone,
  within_its_only rows zones city tiling others up zones_up id zone,
)
