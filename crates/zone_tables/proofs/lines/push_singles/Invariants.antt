use Rattle.std.proofs.Common.{flat_map}
use Rattle.text_pieces.proofs.Sinks.{IsUnderWay}
use Rattle.zone_tables.specs.Report.{within_line}
use Rattle.zone_tables.specs.own.Zonings.{single_zones, zonings}
use Rattle.zone_tables.proofs.lines.push_singles.Given as goal

abbrev pub invariant-loop-parcel : goal.invariant-loop-parcel
invariant-loop-parcel g l =
    IsUnderWay g.S.Sink.takes l.initial.text l.text (flat_map within_line (single_zones (zonings l.pairs)))
    (flat_map within_line (single_zones l.parcel-iterator))
