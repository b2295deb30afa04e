use Rattle.std.proofs.Common.{rules}
use Rattle.std.proofs.lemmas.Result.{err_from_is_err_and, on_err_weaker, on_ok_weaker}
use Rattle.std.specs.Io.KnownBytes.{Appends}
use Rattle.text_pieces.specs.Beginnings.{AppendsBeginning}
use Rattle.text_pieces.proofs.Puts.{all_passed, beginning_passed, begins_alone}
use Rattle.zone_tables.specs.own.Texts.{report_text}
use Rattle.zone_tables.proofs.HandedBack.{handed_back}
use Rattle.zone_tables.proofs.Told.{table_report}
use Rattle.zone_tables.proofs.report.write_report.Goals as goal

pub returns-in_err-push_report-clause-begun : goal.returns-in_err-push_report-clause-begun
returns-in_err-push_report-clause-begun g c =
    let p = err_from_is_err_and c.from_residual.result c.from_residual.ensures.1 in
    let written = g.W.ByteOut.written in
    let text = report_text c.entries.result c.pairs.result.now in
    rw (p.1)
    (record {
      text = text;
      is_report = table_report c.args.table.now c.entries.result c.pairs.result.now c.use_invariant.ensures.table
          c.use_invariant.ensures.tiling c.use_invariant.ensures.zones_tile c.use_invariant.ensures.simple c.use_invariant.ensures.ids_rise
          c.use_invariant.ensures.zones_rise
          c.entries.ensures c.pairs.ensures.pairs;
      is_begun = handed_back (λ a b. AppendsBeginning (written a) (written b) text) _ _ c.push_report.new.text.out.now _
          c.new-text.ensures.out (search rules)
          (begins_alone _ _ c.new-text.result.pending text c.new-text.ensures.pending c.in_err-push_report.ensures.err.0);
    })

pub returns-clause-ok : goal.returns-clause-ok
returns-clause-ok g c =
    let written = g.W.ByteOut.written in
    let text = report_text c.entries.result c.pairs.result.now in
    on_ok_weaker c.finish.result
    (λ h. record {
      text = text;
      is_report = table_report c.args.table.now c.entries.result c.pairs.result.now c.use_invariant.ensures.table
          c.use_invariant.ensures.tiling c.use_invariant.ensures.zones_tile c.use_invariant.ensures.simple c.use_invariant.ensures.ids_rise
          c.use_invariant.ensures.zones_rise
          c.entries.ensures c.pairs.ensures.pairs;
      is_written = handed_back (λ a b. Appends (written a) (written b) text) _ _ c.finish.new.self.out.now _
          c.new-text.ensures.out (search rules)
          (all_passed _ _ _ c.new-text.result.pending _ text c.new-text.ensures.pending c.in_ok-push_report.ensures.ok.0 h);
    })
    c.finish.ensures.ok

pub returns-clause-begun : goal.returns-clause-begun
returns-clause-begun g c =
    let written = g.W.ByteOut.written in
    let text = report_text c.entries.result c.pairs.result.now in
    on_err_weaker c.finish.result
    (λ h. record {
      text = text;
      is_report = table_report c.args.table.now c.entries.result c.pairs.result.now c.use_invariant.ensures.table
          c.use_invariant.ensures.tiling c.use_invariant.ensures.zones_tile c.use_invariant.ensures.simple c.use_invariant.ensures.ids_rise
          c.use_invariant.ensures.zones_rise
          c.entries.ensures c.pairs.ensures.pairs;
      is_begun = handed_back (λ a b. AppendsBeginning (written a) (written b) text) _ _ c.finish.new.self.out.now _
          c.new-text.ensures.out (search rules)
          (beginning_passed _ _ _ c.new-text.result.pending _ text c.new-text.ensures.pending c.in_ok-push_report.ensures.ok.0 h);
    })
    c.finish.ensures.err
