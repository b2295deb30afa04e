use Rattle.std.proofs.Common.{◌++◌, flat_map, refl}
use Rattle.std.proofs.lemmas.Result.{err_from_is_err_and}
use Rattle.text_pieces.specs.own.Gathering.{begins_more, begins_behind, Appends-trans}
use Rattle.zone_tables.specs.own.Texts.{report_text}
use Rattle.zone_tables.proofs.Told.{table_report}
use Rattle.area_shares.specs.AreaText.{area_text}
use Rattle.area_runs.proofs.areas.write_all.Goals as goal

pub returns-in_err-put_all-clause-err : goal.returns-in_err-put_all-clause-err
returns-in_err-put_all-clause-err g c =
    let p = err_from_is_err_and c.from_residual.result c.from_residual.ensures.1 in
    let table = c.args.table.now in
    let lines = c.args.lines.now in
    let report = report_text table.entries table.pairs in
    rw (p.1)
    (record {
      report = report;
      is_report = table_report table table.entries table.pairs c.use_invariant.ensures.table c.use_invariant.ensures.tiling
          c.use_invariant.ensures.zones_tile c.use_invariant.ensures.simple c.use_invariant.ensures.ids_rise
          c.use_invariant.ensures.zones_rise refl refl;
      is_begun = begins_more _ _ (lines ++ report) (flat_map area_text c.args.areas.now)
          (begins_more _ _ lines report c.in_err-put_all.ensures.err);
    })

pub returns-in_err-write_report-clause-err : goal.returns-in_err-write_report-clause-err
returns-in_err-write_report-clause-err g c =
    let p = err_from_is_err_and c.from_residual-in_err-write_report.result c.from_residual-in_err-write_report.ensures.1 in
    let begun = c.in_err-write_report.ensures.begun in
    let lines = c.args.lines.now in
    rw (p.1)
    (record {
      report = begun.text;
      is_report = begun.is_report;
      is_begun = begins_more _ _ (lines ++ begun.text) (flat_map area_text c.args.areas.now)
          (begins_behind _ _ _ lines begun.text c.in_ok-put_all.ensures.ok begun.is_begun);
    })

pub returns-in_err-write_areas-clause-err : goal.returns-in_err-write_areas-clause-err
returns-in_err-write_areas-clause-err g c =
    let p = err_from_is_err_and c.from_residual-in_err-write_areas.result c.from_residual-in_err-write_areas.ensures.1 in
    let told = c.in_ok-write_report.ensures.ok in
    let lines = c.args.lines.now in
    rw (p.1)
    (record {
      report = told.text;
      is_report = told.is_report;
      is_begun = begins_behind _ _ _ (lines ++ told.text) (flat_map area_text c.args.areas.now)
          (Appends-trans _ _ _ lines told.text c.in_ok-put_all.ensures.ok told.is_written) c.in_err-write_areas.ensures.begun;
    })

pub returns-clause-ok : goal.returns-clause-ok
returns-clause-ok g c =
    let told = c.in_ok-write_report.ensures.ok in
    let lines = c.args.lines.now in
    record {
      report = told.text;
      is_report = told.is_report;
      is_written = Appends-trans _ _ _ (lines ++ told.text) (flat_map area_text c.args.areas.now)
          (Appends-trans _ _ _ lines told.text c.in_ok-put_all.ensures.ok told.is_written) c.in_ok-write_areas.ensures.ok;
    }
