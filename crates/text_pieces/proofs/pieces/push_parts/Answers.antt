use Rattle.std.proofs.Common.{ap, flat_map}
use Rattle.std.proofs.lemmas.Result.{err_from_is_err_and}
use Rattle.geo_exact.proofs.numbers.Dropped.{drop_item}
use Rattle.text_pieces.specs.PieceText.{piece_text}
use Rattle.text_pieces.proofs.Sinks.{piece_breaks_off, piece_passes, whole_left}
use Rattle.text_pieces.proofs.pieces.push_parts.Goals as goal

pub loop-part-init : goal.loop-part-init
loop-part-init g c = whole_left _ g.met.S.Sink.takes_nothing _ _

pub returns-in_err-push_pieces-clause-err : goal.returns-in_err-push_pieces-clause-err
returns-in_err-push_pieces-clause-err g c =
    let p = err_from_is_err_and c.from_residual.result c.from_residual.ensures.1 in
    rw (p.1)
    (piece_breaks_off g.S.Sink.takes g.S.Sink.breaks_off g.met.S.Sink.breaks_off_later g.met.S.Sink.breaks_off_before _ _ _ _ _ _ _
    c.loop-part.invariant
    (ap (flat_map (λ part. flat_map piece_text part.now))
    (drop_item c.args.parts.now c.loop-part.part-index c.part-item.result c.loop-part-test.true c.part-item.is))
    c.in_err-push_pieces.ensures.err)

pub loop-part-preserved : goal.loop-part-preserved
loop-part-preserved g c =
    piece_passes g.S.Sink.takes g.met.S.Sink.takes_both _ _ _ _ _ _ _ c.loop-part.invariant
    (ap (flat_map (λ part. flat_map piece_text part.now))
    (drop_item c.args.parts.now c.loop-part.part-index c.part-item.result c.loop-part-test.true c.part-item.is))
    c.in_ok-push_pieces.ensures.ok
