use Rattle.std.proofs.Common.{inr}
use Rattle.geo_exact.proofs.PassedOn.{passed_if}
use Rattle.clerk_runs.specs.ClerkRuns.{register_of}
use Rattle.parcel_runs.proofs.EditedRuns.{made_few}
use Rattle.parcel_runs.proofs.RunFaults.{same_want}
use Rattle.parcel_runs.proofs.RowLimits.{few_rows}
use Rattle.parcel_runs.proofs.export.export.Goals as goal

pub files_behind-requires : goal.files_behind-requires
files_behind-requires g c = made_few _ _ c.in_ok-sheet.ensures.made.is_journal c.in_ok-sheet.ensures.made.leads
    (few_rows _ _ _ _ c.in_ok-layer.ensures.tiles.is_tiled (λ records h.
    c.a_layer_file_is_within_the_limits.ensures.rings _ _ _ records h))

pub returns-in_err-sheet-clause-fault : goal.returns-in_err-sheet-clause-fault
returns-in_err-sheet-clause-fault g c = passed_if _ _ _ c.from_residual-in_err-sheet.ensures.1
    (inr (same_want c.args.files.now.clerks.items c.in_ok-layer.field-0.clerks.items _ c.in_ok-layer.ensures.edits
    c.in_err-sheet.ensures.fault))

pub returns-in_err-sheet-clause-refuses : goal.returns-in_err-sheet-clause-refuses
returns-in_err-sheet-clause-refuses g c = λ fault h. absurd (c.in_ok-layer.ensures.refuses fault h)

pub returns-clause-ok : goal.returns-clause-ok
returns-clause-ok g c = record {
  tiles = c.in_ok-layer.field-0.layer;
  are_tiles = c.in_ok-layer.ensures.tiles;
  after = register_of c.in_ok-sheet.field-0.sheet;
  told = c.in_ok-sheet.field-0.lines.items;
  is_edited = record {
    clerks = c.in_ok-layer.field-0.clerks.items;
    are_files = c.in_ok-layer.ensures.edits;
    are_made = c.in_ok-sheet.ensures.made;
  };
  is_main = c.in_ok-files_behind.ensures.main;
  is_index = c.in_ok-files_behind.ensures.index;
  is_told = c.in_ok-files_behind.ensures.lines;
}

pub returns-clause-refuses : goal.returns-clause-refuses
returns-clause-refuses g c = λ fault h. absurd (c.in_ok-layer.ensures.refuses fault h)
