use Rattle.std.proofs.Common.{drop, flat_map}
use Rattle.text_pieces.specs.PieceText.{number_text}
use Rattle.text_pieces.proofs.Sinks.{IsUnderWay}
use Rattle.text_pieces.proofs.lists.push_numbers.Given as goal

abbrev pub invariant-loop-number : goal.invariant-loop-number
invariant-loop-number g l =
    IsUnderWay g.S.Sink.takes l.initial.text l.text (flat_map number_text l.numbers) (flat_map number_text (drop l.number-index l.numbers))
