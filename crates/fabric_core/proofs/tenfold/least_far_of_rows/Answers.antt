use Rattle.std.proofs.Common.{sym, ◌∙◌, ap, subst, ◌++◌, take}
use Rattle.std.proofs.lemmas.List.{append-nil, append_assoc, take_all}
use Rattle.scaled_rings.specs.Tenfold.{IsLeastFarOf}
use Rattle.fabric_core.specs.Tenfold.{corners_of_rows}
use Rattle.fabric_core.specs.own.EntryRows.{rows_of_entry}
use Rattle.fabric_core.proofs.tens.Corners.{corners_more}
use Rattle.fabric_core.proofs.tenfold.least_far_of_rows.Goals as goal

pub loop-row-init : goal.loop-row-init
loop-row-init g c = λ before h. subst (λ xs. IsLeastFarOf xs c.args.found) (sym (append-nil before)) h

pub loop-row-preserved : goal.loop-row-preserved
loop-row-preserved g c = λ before h.
    let rows = c.args.rows.now in let i = c.loop-row.row-index in let done = corners_of_rows (rows_of_entry (take i rows)) in
    subst (λ xs. IsLeastFarOf xs c.least_far-least.result)
    (append_assoc before done c.as_slice.result.now
    ∙ ap (λ cs. before ++ cs) (ap (λ cs. done ++ cs) c.as_slice.ensures
    ∙ sym (corners_more rows i c.row-item.result c.loop-row-test.true c.row-item.is)))
    (c.least_far-least.ensures (before ++ done) (c.loop-row.invariant before h))

pub returns : goal.returns
returns g c = λ before h.
    subst (λ xs. IsLeastFarOf (before ++ corners_of_rows (rows_of_entry xs)) c.loop-row.least)
    (take_all c.loop-row.row-index c.args.rows.now c.loop-row-test.false) (c.loop-row.invariant before h)
