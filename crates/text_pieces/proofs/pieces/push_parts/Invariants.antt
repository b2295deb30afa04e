use Rattle.std.proofs.Common.{drop, flat_map}
use Rattle.text_pieces.specs.PieceText.{piece_text}
use Rattle.text_pieces.proofs.Sinks.{IsUnderWay}
use Rattle.text_pieces.proofs.pieces.push_parts.Given as goal

abbrev pub invariant-loop-part : goal.invariant-loop-part
invariant-loop-part g l =
    IsUnderWay g.S.Sink.takes l.initial.text l.text (flat_map (λ part. flat_map piece_text part.now) l.parts)
    (flat_map (λ part. flat_map piece_text part.now) (drop l.part-index l.parts))
