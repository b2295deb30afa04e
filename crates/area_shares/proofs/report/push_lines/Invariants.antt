use Rattle.std.proofs.Common.{drop, flat_map}
use Rattle.text_pieces.proofs.Sinks.{IsUnderWay}
use Rattle.area_shares.specs.AreaText.{area_text}
use Rattle.area_shares.proofs.report.push_lines.Given as goal

abbrev pub invariant-loop-line : goal.invariant-loop-line
invariant-loop-line g l =
    IsUnderWay g.S.Sink.takes l.initial.text l.text (flat_map area_text l.lines) (flat_map area_text (drop l.line-index l.lines))
