use Rattle.std.proofs.Common.{refl, ap, flat_map, length, ◌<◌, ◌+◌, ◌++◌, arith, codes, decimal, drop, get_or}
use Rattle.std.proofs.lemmas.List.{drop_more}
use Rattle.std.proofs.lemmas.Result.{err_from_is_err_and}
use Rattle.text_pieces.specs.PieceText.{number_text}
use Rattle.text_pieces.proofs.Sinks.{piece_breaks_off, piece_passes, whole_left}
use Rattle.text_pieces.proofs.lists.push_numbers.Goals as goal

pub loop-number-init : goal.loop-number-init
loop-number-init g c = whole_left _ g.met.S.Sink.takes_nothing _ _

pub returns-in_err-push_piece-clause-err : goal.returns-in_err-push_piece-clause-err
returns-in_err-push_piece-clause-err g c =
    let p = err_from_is_err_and c.from_residual.result c.from_residual.ensures.1 in
    let in_list : c.loop-number.number-index < length c.args.numbers.now = omega arith in
    let number = decimal (get_or c.args.numbers.now c.loop-number.number-index 0) in
    let rest = flat_map number_text (drop (c.loop-number.number-index + 1) c.args.numbers.now) in
    rw (p.1)
    (piece_breaks_off g.S.Sink.takes g.S.Sink.breaks_off g.met.S.Sink.breaks_off_later g.met.S.Sink.breaks_off_before
    _ _ _ _ _ (codes " ") (number ++ rest) c.loop-number.invariant
    (ap (flat_map number_text) (drop_more c.args.numbers.now c.loop-number.number-index 0 in_list)) c.in_err-push_piece.ensures.err)

pub returns-in_err-push_number-clause-err : goal.returns-in_err-push_number-clause-err
returns-in_err-push_number-clause-err g c =
    let p = err_from_is_err_and c.from_residual-in_err-push_number.result c.from_residual-in_err-push_number.ensures.1 in
    let in_list : c.loop-number.number-index < length c.args.numbers.now = omega arith in
    let number = decimal (get_or c.args.numbers.now c.loop-number.number-index 0) in
    let rest = flat_map number_text (drop (c.loop-number.number-index + 1) c.args.numbers.now) in
    let behind_space = piece_passes g.S.Sink.takes g.met.S.Sink.takes_both _ _ _ _ _ (codes " ") (number ++ rest)
    c.loop-number.invariant
    (ap (flat_map number_text) (drop_more c.args.numbers.now c.loop-number.number-index 0 in_list)) c.in_ok-push_piece.ensures.ok in
    rw (p.1)
    (piece_breaks_off g.S.Sink.takes g.S.Sink.breaks_off g.met.S.Sink.breaks_off_later g.met.S.Sink.breaks_off_before
    _ _ _ _ _ number rest behind_space refl c.in_err-push_number.ensures.err)

pub loop-number-preserved : goal.loop-number-preserved
loop-number-preserved g c =
    let in_list : c.loop-number.number-index < length c.args.numbers.now = omega arith in
    let number = decimal (get_or c.args.numbers.now c.loop-number.number-index 0) in
    let rest = flat_map number_text (drop (c.loop-number.number-index + 1) c.args.numbers.now) in
    let behind_space = piece_passes g.S.Sink.takes g.met.S.Sink.takes_both _ _ _ _ _ (codes " ") (number ++ rest)
    c.loop-number.invariant
    (ap (flat_map number_text) (drop_more c.args.numbers.now c.loop-number.number-index 0 in_list)) c.in_ok-push_piece.ensures.ok in
    piece_passes g.S.Sink.takes g.met.S.Sink.takes_both _ _ _ _ _ number rest behind_space refl c.in_ok-push_number.ensures.ok
