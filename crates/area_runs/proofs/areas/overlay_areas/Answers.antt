use Rattle.std.proofs.Common.{inl, inr, refl, sym, ◌∙◌, subst, length}
use Rattle.std.specs.Result.{OnOk, OnErr}
use Rattle.clerk_runs.specs.ClerkFiles.{texts_of}
use Rattle.clerk_runs.specs.ClerkRuns.{register_of, IsEdited}
use Rattle.city_layers.specs.TilingFiles.{files_of}
use Rattle.parcel_runs.specs.RunFiles.{parcel_run_of}
use Rattle.parcel_runs.specs.OverlayReport.{IsTableOf}
use Rattle.geo_exact.proofs.PassedOn.{passed_on, passed_if, passed_is}
use Rattle.parcel_runs.proofs.RunFaults.{same_want, want_no_output}
use Rattle.parcel_runs.proofs.InputFaults.{zoned}
use Rattle.parcel_runs.proofs.OverlayTexts.{no_output, overlay_want_no_output, want_of_more}
use Rattle.parcel_runs.proofs.OverlayTexts.{on_output, output_alone, on_ok}
use Rattle.area_shares.specs.AreaTable.{IsAreaTable}
use Rattle.area_runs.specs.own.LinesReportsAreas.{WritesAll, BeginsAll}
use Rattle.area_runs.proofs.AreaTexts.{areas_of_table, all_written, some_written}
use Rattle.area_runs.proofs.areas.overlay_areas.Goals as goal

pub overlay_table-requires-clause-city : goal.overlay_table-requires-clause-city
overlay_table-requires-clause-city g c κs within =
    let inputs = c.in_ok-layer.field-0 in
    let are = zoned (files_of c.args.files.now.city) (files_of c.args.files.now.parcels) (files_of c.args.zones.now)
    c.args.files.now.unit inputs.layer c.in-Some.zones inputs.zones c.in-Some.is c.in_ok-layer.ensures.tiles
    c.in_ok-layer.ensures.zones in
    are.are_regions.same_city ∙ sym c.in_ok-sheet.ensures.city

pub returns-in_err-layer-clause-refuses : goal.returns-in_err-layer-clause-refuses
returns-in_err-layer-clause-refuses g c = λ fault h. passed_on _ _ _ c.from_residual.ensures.1
    (c.in_err-layer.ensures.refuses fault h)

pub returns-in_err-layer-clause-output : goal.returns-in_err-layer-clause-output
returns-in_err-layer-clause-output g c = λ h.
    absurd (no_output (parcel_run_of c.args.files.now) (files_of c.args.zones.now) c.in_err-layer.field-0.0 c.in_err-layer.ensures.fault
    (passed_is _ _ _ c.from_residual.ensures.1 h))

pub returns-in_err-layer-clause-failed : goal.returns-in_err-layer-clause-failed
returns-in_err-layer-clause-failed g c = λ h.
    absurd (no_output (parcel_run_of c.args.files.now) (files_of c.args.zones.now) c.in_err-layer.field-0.0 c.in_err-layer.ensures.fault
    (passed_is _ _ _ c.from_residual.ensures.1 h))

pub returns-in_err-sheet-clause-fault : goal.returns-in_err-sheet-clause-fault
returns-in_err-sheet-clause-fault g c =
    passed_if _ _ _ c.from_residual-in_err-sheet.ensures.1
    (inr (inl (
      inl (same_want c.args.files.now.clerks.items c.in_ok-layer.field-0.clerks.items _ c.in_ok-layer.ensures.edits
          c.in_err-sheet.ensures.fault),
      refl,
    )))

pub returns-in_err-sheet-clause-refuses : goal.returns-in_err-sheet-clause-refuses
returns-in_err-sheet-clause-refuses g c = λ fault h. absurd (c.in_ok-layer.ensures.refuses fault h)

pub returns-in_err-sheet-clause-output : goal.returns-in_err-sheet-clause-output
returns-in_err-sheet-clause-output g c = λ h.
    absurd (want_no_output (length c.in_ok-layer.field-0.clerks.items) _ c.in_err-sheet.ensures.fault
    (passed_is _ _ _ c.from_residual-in_err-sheet.ensures.1 h))

pub returns-in_err-sheet-clause-failed : goal.returns-in_err-sheet-clause-failed
returns-in_err-sheet-clause-failed g c = λ h.
    absurd (want_no_output (length c.in_ok-layer.field-0.clerks.items) _ c.in_err-sheet.ensures.fault
    (passed_is _ _ _ c.from_residual-in_err-sheet.ensures.1 h))

pub returns-in_err-table-clause-fault : goal.returns-in_err-table-clause-fault
returns-in_err-table-clause-fault g c = passed_if _ _ _ c.from_residual-in_err-table.ensures.1
    (inr (inl (want_of_more (length c.args.files.now.clerks.items) c.args.workers _ c.in_err-table.ensures.fault, refl)))

pub returns-in_err-table-clause-refuses : goal.returns-in_err-table-clause-refuses
returns-in_err-table-clause-refuses g c = λ fault h. absurd (c.in_ok-layer.ensures.refuses fault h)

pub returns-in_err-table-clause-output : goal.returns-in_err-table-clause-output
returns-in_err-table-clause-output g c = λ h.
    absurd (overlay_want_no_output 0 c.args.workers _ c.in_err-table.ensures.fault
    (passed_is _ _ _ c.from_residual-in_err-table.ensures.1 h))

pub returns-in_err-table-clause-failed : goal.returns-in_err-table-clause-failed
returns-in_err-table-clause-failed g c = λ h.
    absurd (overlay_want_no_output 0 c.args.workers _ c.in_err-table.ensures.fault
    (passed_is _ _ _ c.from_residual-in_err-table.ensures.1 h))

pub returns-clause-ok : goal.returns-clause-ok
returns-clause-ok g c =
    let inputs = c.in_ok-layer.field-0 in
    let are = zoned (files_of c.args.files.now.city) (files_of c.args.files.now.parcels) (files_of c.args.zones.now)
    c.args.files.now.unit inputs.layer c.in-Some.zones inputs.zones c.in-Some.is c.in_ok-layer.ensures.tiles
    c.in_ok-layer.ensures.zones in
    let sheet = c.in_ok-sheet.field-0.sheet in
    let lines = c.in_ok-sheet.field-0.lines in
    let table = c.in_ok-table.table in
    let areas = c.in_ok-areas.areas in
    let edited : IsEdited inputs.layer (texts_of c.args.files.now.clerks.items) (register_of sheet) lines.items = record {
      clerks = inputs.clerks.items;
      are_files = c.in_ok-layer.ensures.edits;
      are_made = c.in_ok-sheet.ensures.made;
    } in
    let is : IsTableOf (register_of sheet) c.in-Some.zones table = record {
      rows = c.in_ok-table.ensures.rows;
      zones = c.in_ok-table.ensures.zones;
      entries = c.in_ok-table.ensures.entries;
      is_table = c.in_ok-table.ensures.table;
    } in
    let are_areas : IsAreaTable table.rows table.zones table.pairs areas.items =
    areas_of_table _ _ _ table areas.items is.rows is.zones c.pairs.ensures.pairs c.in_ok-areas.ensures in
    on_ok c.write_all.result _ _
    (all_written (parcel_run_of c.args.files.now) (files_of c.args.zones.now) inputs.layer
    c.in-Some.zones (register_of sheet) lines.items table areas.items are edited is are_areas _ _)
    (subst (λ l. OnOk c.write_all.result (WritesAll l table areas.items (g.W.ByteOut.written c.args.out.now)
    (g.W.ByteOut.written c.write_all.new.out)))
    c.as_slice.ensures.value
    (subst (λ a. OnOk c.write_all.result (WritesAll c.as_slice.result.now table a (g.W.ByteOut.written c.args.out.now)
    (g.W.ByteOut.written c.write_all.new.out)))
    c.as_slice-2.ensures.value c.write_all.ensures.ok))

pub returns-clause-fault : goal.returns-clause-fault
returns-clause-fault g c = output_alone c.write_all.result _ c.write_all.ensures.output (λ fault e. inr (inr e))

pub returns-clause-refuses : goal.returns-clause-refuses
returns-clause-refuses g c = λ fault h. absurd (c.in_ok-layer.ensures.refuses fault h)

pub returns-clause-output : goal.returns-clause-output
returns-clause-output g c = λ h.
    let inputs = c.in_ok-layer.field-0 in
    let are = zoned (files_of c.args.files.now.city) (files_of c.args.files.now.parcels) (files_of c.args.zones.now)
    c.args.files.now.unit inputs.layer c.in-Some.zones inputs.zones c.in-Some.is c.in_ok-layer.ensures.tiles
    c.in_ok-layer.ensures.zones in
    let sheet = c.in_ok-sheet.field-0.sheet in
    let lines = c.in_ok-sheet.field-0.lines in
    let table = c.in_ok-table.table in
    let areas = c.in_ok-areas.areas in
    let edited : IsEdited inputs.layer (texts_of c.args.files.now.clerks.items) (register_of sheet) lines.items = record {
      clerks = inputs.clerks.items;
      are_files = c.in_ok-layer.ensures.edits;
      are_made = c.in_ok-sheet.ensures.made;
    } in
    let is : IsTableOf (register_of sheet) c.in-Some.zones table = record {
      rows = c.in_ok-table.ensures.rows;
      zones = c.in_ok-table.ensures.zones;
      entries = c.in_ok-table.ensures.entries;
      is_table = c.in_ok-table.ensures.table;
    } in
    let are_areas : IsAreaTable table.rows table.zones table.pairs areas.items =
    areas_of_table _ _ _ table areas.items is.rows is.zones c.pairs.ensures.pairs c.in_ok-areas.ensures in
    some_written (parcel_run_of c.args.files.now) (files_of c.args.zones.now) inputs.layer
    c.in-Some.zones (register_of sheet) lines.items table areas.items are edited is are_areas _ _
    (on_output c.write_all.result _
    (subst (λ l. OnErr c.write_all.result (BeginsAll l table areas.items (g.W.ByteOut.written c.args.out.now)
    (g.W.ByteOut.written c.write_all.new.out)))
    c.as_slice.ensures.value
    (subst (λ a. OnErr c.write_all.result (BeginsAll c.as_slice.result.now table a (g.W.ByteOut.written c.args.out.now)
    (g.W.ByteOut.written c.write_all.new.out)))
    c.as_slice-2.ensures.value c.write_all.ensures.err)) h)
