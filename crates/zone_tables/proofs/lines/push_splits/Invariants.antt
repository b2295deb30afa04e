use Rattle.std.proofs.Common.{flat_map}
use Rattle.text_pieces.proofs.Sinks.{IsUnderWay}
use Rattle.zone_tables.specs.Report.{split_line}
use Rattle.zone_tables.specs.own.Zonings.{split_ids, zonings}
use Rattle.zone_tables.proofs.lines.push_splits.Given as goal

abbrev pub invariant-loop-parcel : goal.invariant-loop-parcel
invariant-loop-parcel g l =
    IsUnderWay g.S.Sink.takes l.initial.text l.text (flat_map split_line (split_ids (zonings l.pairs)))
    (flat_map split_line (split_ids l.parcel-iterator))
