use Rattle.std.proofs.Common.{◌≡◌, sym, ◌∙◌, ap, subst, List, ◌++◌, take}
use Rattle.std.proofs.lemmas.List.{append-nil, append_assoc, take_all}
use Rattle.scaled_rings.specs.Tenfold.{IsLeastFarOf}
use Rattle.scaled_rings.specs.TenfoldEdits.{corners_of_edit}
use Rattle.fabric_core.specs.Tenfold.{corners_of_entries, corners_of_rows}
use Rattle.fabric_core.specs.own.EntryRows.{rows_of_entry}
use Rattle.fabric_core.proofs.tens.Corners.{entries_more}
use Rattle.fabric_core.proofs.tenfold.least_far_of_entries.Goals as goal

regroup : {X : Type 0} (before done edit rows : List X) → ((before ++ done) ++ edit) ++ rows ≡ before ++ ((done ++ edit) ++ rows)
regroup before done edit rows = simp append_assoc

pub loop-entry-init : goal.loop-entry-init
loop-entry-init g c = λ before h. subst (λ xs. IsLeastFarOf xs c.args.found) (sym (append-nil before)) h

pub loop-entry-preserved : goal.loop-entry-preserved
loop-entry-preserved g c = λ before h.
    let entries = c.args.entries.now in let i = c.loop-entry.entry-index in let done = corners_of_entries (take i entries) in
    let edit = corners_of_edit c.edit.result.now in let rows = corners_of_rows (rows_of_entry c.rows.result.now) in
    subst (λ xs. IsLeastFarOf xs c.least_far_of_rows-least.result)
    (regroup before done edit rows
    ∙ ap (λ xs. before ++ xs) (ap (λ e. (done ++ corners_of_edit e) ++ rows) c.edit.ensures
    ∙ ap (λ rs. (done ++ corners_of_edit c.entry-item.result.edit) ++ corners_of_rows rs) c.rows.ensures
    ∙ sym (entries_more entries i c.entry-item.result c.loop-entry-test.true c.entry-item.is)))
    (c.least_far_of_rows-least.ensures ((before ++ done) ++ edit)
    (c.least_far_of_edit-least.ensures (before ++ done) (c.loop-entry.invariant before h)))

pub returns : goal.returns
returns g c = λ before h.
    subst (λ xs. IsLeastFarOf (before ++ corners_of_entries xs) c.loop-entry.least)
    (take_all c.loop-entry.entry-index c.args.entries.now c.loop-entry-test.false) (c.loop-entry.invariant before h)
