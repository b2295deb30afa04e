use Rattle.std.proofs.Common.{drop, flat_map}
use Rattle.text_pieces.specs.PieceText.{piece_text}
use Rattle.text_pieces.proofs.Sinks.{IsUnderWay}
use Rattle.text_pieces.proofs.pieces.push_pieces.Given as goal

abbrev pub invariant-loop-piece : goal.invariant-loop-piece
invariant-loop-piece g l =
    IsUnderWay g.S.Sink.takes l.initial.text l.text (flat_map piece_text l.pieces) (flat_map piece_text (drop l.piece-index l.pieces))
