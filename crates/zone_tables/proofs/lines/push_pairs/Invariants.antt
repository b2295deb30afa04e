use Rattle.std.proofs.Common.{drop, flat_map}
use Rattle.text_pieces.proofs.Sinks.{IsUnderWay}
use Rattle.zone_tables.specs.Report.{pair_line}
use Rattle.zone_tables.proofs.lines.push_pairs.Given as goal

abbrev pub invariant-loop-pair : goal.invariant-loop-pair
invariant-loop-pair g l =
    IsUnderWay g.S.Sink.takes l.initial.text l.text (flat_map pair_line l.pairs) (flat_map pair_line (drop l.pair-index l.pairs))
