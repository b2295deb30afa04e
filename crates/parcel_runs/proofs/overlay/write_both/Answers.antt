use Rattle.std.proofs.Common.{refl}
use Rattle.std.proofs.lemmas.Result.{err_from_is_err_and}
use Rattle.text_pieces.specs.own.Gathering.{begins_more, begins_behind}
use Rattle.zone_tables.specs.own.Texts.{report_text}
use Rattle.zone_tables.proofs.Told.{table_report}
use Rattle.parcel_runs.proofs.overlay.write_both.Goals as goal

pub returns-in_err-put_all-clause-err : goal.returns-in_err-put_all-clause-err
returns-in_err-put_all-clause-err g c =
    let p = err_from_is_err_and c.from_residual.result c.from_residual.ensures.1 in
    let table = c.args.table.now in
    let report = report_text table.entries table.pairs in
    rw (p.1)
    (record {
      report = report;
      is_report = table_report table table.entries table.pairs c.use_invariant.ensures.table c.use_invariant.ensures.tiling
          c.use_invariant.ensures.zones_tile c.use_invariant.ensures.simple c.use_invariant.ensures.ids_rise
          c.use_invariant.ensures.zones_rise refl refl;
      is_begun = begins_more _ _ c.args.lines.now report c.in_err-put_all.ensures.err;
    })

pub returns-in_err-write_report-clause-err : goal.returns-in_err-write_report-clause-err
returns-in_err-write_report-clause-err g c =
    let p = err_from_is_err_and c.from_residual-in_err-write_report.result c.from_residual-in_err-write_report.ensures.1 in
    let begun = c.in_err-write_report.ensures.begun in
    rw (p.1)
    (record {
      report = begun.text;
      is_report = begun.is_report;
      is_begun = begins_behind _ _ _ c.args.lines.now begun.text c.in_ok-put_all.ensures.ok begun.is_begun;
    })
