use Rattle.std.proofs.Common.{ap, flat_map, length, ◌<◌, arith, pos}
use Rattle.std.proofs.lemmas.List.{drop_more}
use Rattle.std.proofs.lemmas.Result.{err_from_is_err_and}
use Rattle.text_pieces.proofs.Sinks.{piece_breaks_off, piece_passes, whole_left}
use Rattle.area_shares.specs.AreaText.{area_text}
use Rattle.area_shares.specs.own.Rounded.{line_of}
use Rattle.area_shares.proofs.report.push_lines.Goals as goal

pub loop-line-init : goal.loop-line-init
loop-line-init g c = whole_left _ g.met.S.Sink.takes_nothing _ _

pub returns-in_err-push_line-clause-err : goal.returns-in_err-push_line-clause-err
returns-in_err-push_line-clause-err g c =
    let p = err_from_is_err_and c.from_residual.result c.from_residual.ensures.1 in
    let in_list : c.loop-line.line-index < length c.args.lines.now = omega arith in
    rw (p.1)
    (piece_breaks_off g.S.Sink.takes g.S.Sink.breaks_off g.met.S.Sink.breaks_off_later g.met.S.Sink.breaks_off_before _ _ _ _ _ _ _
    c.loop-line.invariant
    (ap (flat_map area_text) (drop_more c.args.lines.now c.loop-line.line-index (line_of 0 0 (pos 0)) in_list))
    c.in_err-push_line.ensures.err)

pub loop-line-preserved : goal.loop-line-preserved
loop-line-preserved g c =
    let in_list : c.loop-line.line-index < length c.args.lines.now = omega arith in
    piece_passes g.S.Sink.takes g.met.S.Sink.takes_both _ _ _ _ _ _ _ c.loop-line.invariant
    (ap (flat_map area_text) (drop_more c.args.lines.now c.loop-line.line-index (line_of 0 0 (pos 0)) in_list)) c.in_ok-push_line.ensures.ok
