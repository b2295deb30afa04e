use Rattle.std.proofs.Common.{ap, flat_map}
use Rattle.std.proofs.lemmas.Result.{err_from_is_err_and}
use Rattle.text_pieces.proofs.Sinks.{piece_breaks_off, piece_passes, whole_left}
use Rattle.zone_tables.specs.Report.{within_line}
use Rattle.zone_tables.proofs.Zonings.{next_single}
use Rattle.zone_tables.proofs.lines.push_singles.Goals as goal

pub loop-parcel-init : goal.loop-parcel-init
loop-parcel-init g c =
    rw (c.into_iter-parcel-iterator.ensures.into_iter_gives, c.new-parcel-items.ensures) (whole_left _ g.met.S.Sink.takes_nothing _ _)

pub loop-parcel-preserved-in-Continue-1 : goal.loop-parcel-preserved-in-Continue-1
loop-parcel-preserved-in-Continue-1 g c =
    piece_passes g.S.Sink.takes g.met.S.Sink.takes_both _ _ _ _ _ _ _ c.loop-parcel.invariant
    (ap (flat_map within_line) (next_single _ _ _ c.in-Some.ensures.steps c.if-not-parcel.true)) c.in_ok-push_line.ensures.ok

pub returns-in_err-push_line-clause-err : goal.returns-in_err-push_line-clause-err
returns-in_err-push_line-clause-err g c =
    let p = err_from_is_err_and c.from_residual.result c.from_residual.ensures.1 in
    rw (p.1)
    (piece_breaks_off g.S.Sink.takes g.S.Sink.breaks_off g.met.S.Sink.breaks_off_later g.met.S.Sink.breaks_off_before _ _ _ _ _ _ _
    c.loop-parcel.invariant
    (ap (flat_map within_line) (next_single _ _ _ c.in-Some.ensures.steps c.if-not-parcel.true)) c.in_err-push_line.ensures.err)
