use Rattle.std.proofs.Common.{drop, flat_map}
use Rattle.text_pieces.specs.CornerText.{next_corner_text}
use Rattle.text_pieces.proofs.Sinks.{IsUnderWay}
use Rattle.text_pieces.proofs.lists.push_corners.Given as goal

abbrev pub invariant-loop-corner : goal.invariant-loop-corner
invariant-loop-corner g l =
    IsUnderWay g.S.Sink.takes l.initial.text l.text (flat_map next_corner_text l.corners)
    (flat_map next_corner_text (drop l.corner-index l.corners))
