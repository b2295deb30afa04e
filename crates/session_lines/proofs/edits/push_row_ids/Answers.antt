use Rattle.std.proofs.Common.{ap, flat_map, map}
use Rattle.std.proofs.lemmas.Result.{err_from_is_err_and}
use Rattle.geo_exact.proofs.numbers.Dropped.{drop_item}
use Rattle.fabric_core.specs.JournalRows.{row_of}
use Rattle.fabric_core.specs.Rows.{numbers}
use Rattle.text_pieces.proofs.Sinks.{piece_breaks_off, piece_passes, whole_left}
use Rattle.clerk_runs.specs.PlaceTexts.{id_text}
use Rattle.session_lines.proofs.edits.push_row_ids.Goals as goal

pub loop-row-init : goal.loop-row-init
loop-row-init g c = whole_left _ g.met.S.Sink.takes_nothing _ _

pub returns-in_err-push_id-clause-err : goal.returns-in_err-push_id-clause-err
returns-in_err-push_id-clause-err g c =
    let p = err_from_is_err_and c.from_residual.result c.from_residual.ensures.1 in
    rw (p.1)
    (piece_breaks_off g.S.Sink.takes g.S.Sink.breaks_off g.met.S.Sink.breaks_off_later g.met.S.Sink.breaks_off_before
    _ _ _ _ _ _ _ c.loop-row.invariant
    (ap (λ rows. flat_map id_text (numbers (map row_of rows)))
    (drop_item c.args.rows.now c.loop-row.row-index c.row-item.result c.loop-row-test.true c.row-item.is))
    c.in_err-push_id.ensures.err)

pub loop-row-preserved : goal.loop-row-preserved
loop-row-preserved g c =
    piece_passes g.S.Sink.takes g.met.S.Sink.takes_both _ _ _ _ _ _ _ c.loop-row.invariant
    (ap (λ rows. flat_map id_text (numbers (map row_of rows)))
    (drop_item c.args.rows.now c.loop-row.row-index c.row-item.result c.loop-row-test.true c.row-item.is))
    c.in_ok-push_id.ensures.ok
