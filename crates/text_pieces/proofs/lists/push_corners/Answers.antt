use Rattle.std.proofs.Common.{refl, ap, flat_map, ◌+◌, ◌++◌, codes, drop}
use Rattle.std.proofs.lemmas.Result.{err_from_is_err_and}
use Rattle.geo_exact.proofs.numbers.Dropped.{drop_item}
use Rattle.text_pieces.specs.CornerText.{corner_text, next_corner_text}
use Rattle.text_pieces.proofs.Sinks.{piece_breaks_off, piece_passes, whole_left}
use Rattle.text_pieces.proofs.lists.push_corners.Goals as goal

pub loop-corner-init : goal.loop-corner-init
loop-corner-init g c = whole_left _ g.met.S.Sink.takes_nothing _ _

pub returns-in_err-push_piece-clause-err : goal.returns-in_err-push_piece-clause-err
returns-in_err-push_piece-clause-err g c =
    let p = err_from_is_err_and c.from_residual.result c.from_residual.ensures.1 in
    let rest = flat_map next_corner_text (drop (c.loop-corner.corner-index + 1) c.args.corners.now) in
    rw (p.1)
    (piece_breaks_off g.S.Sink.takes g.S.Sink.breaks_off g.met.S.Sink.breaks_off_later g.met.S.Sink.breaks_off_before
    _ _ _ _ _ (codes " ") (corner_text c.corner-item.result ++ rest) c.loop-corner.invariant
    (ap (flat_map next_corner_text)
    (drop_item c.args.corners.now c.loop-corner.corner-index c.corner-item.result c.loop-corner-test.true c.corner-item.is))
    c.in_err-push_piece.ensures.err)

pub returns-in_err-push_corner-clause-err : goal.returns-in_err-push_corner-clause-err
returns-in_err-push_corner-clause-err g c =
    let p = err_from_is_err_and c.from_residual-in_err-push_corner.result c.from_residual-in_err-push_corner.ensures.1 in
    let rest = flat_map next_corner_text (drop (c.loop-corner.corner-index + 1) c.args.corners.now) in
    let behind_space = piece_passes g.S.Sink.takes g.met.S.Sink.takes_both
    _ _ _ _ _ (codes " ") (corner_text c.corner-item.result ++ rest) c.loop-corner.invariant
    (ap (flat_map next_corner_text)
    (drop_item c.args.corners.now c.loop-corner.corner-index c.corner-item.result c.loop-corner-test.true c.corner-item.is))
    c.in_ok-push_piece.ensures.ok in
    rw (p.1)
    (piece_breaks_off g.S.Sink.takes g.S.Sink.breaks_off g.met.S.Sink.breaks_off_later g.met.S.Sink.breaks_off_before
    _ _ _ _ _ (corner_text c.corner-item.result) rest behind_space refl c.in_err-push_corner.ensures.err)

pub loop-corner-preserved : goal.loop-corner-preserved
loop-corner-preserved g c =
    let rest = flat_map next_corner_text (drop (c.loop-corner.corner-index + 1) c.args.corners.now) in
    let behind_space = piece_passes g.S.Sink.takes g.met.S.Sink.takes_both
    _ _ _ _ _ (codes " ") (corner_text c.corner-item.result ++ rest) c.loop-corner.invariant
    (ap (flat_map next_corner_text)
    (drop_item c.args.corners.now c.loop-corner.corner-index c.corner-item.result c.loop-corner-test.true c.corner-item.is))
    c.in_ok-push_piece.ensures.ok in
    piece_passes g.S.Sink.takes g.met.S.Sink.takes_both
    _ _ _ _ _ (corner_text c.corner-item.result) rest behind_space refl c.in_ok-push_corner.ensures.ok
