use Rattle.std.proofs.Common.{sym, subst, ◌+◌, take, []}
use Rattle.std.specs.List.{AllZip}
use Rattle.std.proofs.lemmas.List.{take_all}
use Rattle.fabric_core.specs.Tenfold.{IsTenfoldEntry}
use Rattle.fabric_core.proofs.tens.Corners.{near_entry, ten_entries_more}
use Rattle.fabric_core.proofs.tenfold.tenfold_entries.Goals as goal

pub loop-entry-init : goal.loop-entry-init
loop-entry-init g c = subst (AllZip IsTenfoldEntry []) (sym c.in_ok-others.ensures.items) tt

pub tenfold_entry-requires : goal.tenfold_entry-requires
tenfold_entry-requires g c =
    near_entry c.args.entries.now c.loop-entry.entry-index c.entry-item.result c.loop-entry-test.true c.entry-item.is c.requires

pub loop-entry-preserved : goal.loop-entry-preserved
loop-entry-preserved g c =
    let i = c.loop-entry.entry-index in
    subst (AllZip IsTenfoldEntry (take (i + 1) c.args.entries.now)) (sym c.in_ok-push.ensures.items)
    (ten_entries_more c.args.entries.now c.loop-entry.others.items i c.entry-item.result c.in_ok-tenfold_entry.field-0
    c.loop-entry-test.true c.entry-item.is c.loop-entry.invariant c.in_ok-tenfold_entry.ensures)

pub returns : goal.returns
returns g c =
    subst (λ xs. AllZip IsTenfoldEntry xs c.loop-entry.others.items)
    (take_all c.loop-entry.entry-index c.args.entries.now c.loop-entry-test.false) c.loop-entry.invariant
