use Rattle.std.proofs.Common.{refl, sym, subst, ◌+◌, take, []}
use Rattle.std.specs.List.{AllByRecursion, AllZip}
use Rattle.std.proofs.lemmas.List.{take_all}
use Rattle.scaled_rings.specs.Tenfold.{AreTenTimes, IsNear}
use Rattle.fabric_core.specs.Tenfold.{IsTenfoldRow}
use Rattle.fabric_core.specs.own.EntryRows.{rows_of_entry}
use Rattle.fabric_core.proofs.tens.Corners.{near_row, ten_rows_more}
use Rattle.fabric_core.proofs.tenfold.tenfold_rows.Goals as goal

pub loop-row-init : goal.loop-row-init
loop-row-init g c = subst (λ xs. AllZip IsTenfoldRow [] (rows_of_entry xs)) (sym c.in_ok-others.ensures.items) tt

pub tenfold_all-requires : goal.tenfold_all-requires
tenfold_all-requires g c =
    subst (AllByRecursion IsNear) (sym c.as_slice.ensures)
    (near_row c.args.rows.now c.loop-row.row-index c.row-item.result c.loop-row-test.true c.row-item.is c.requires)

pub loop-row-preserved : goal.loop-row-preserved
loop-row-preserved g c =
    let i = c.loop-row.row-index in
    let ten = subst (λ xs. AreTenTimes xs c.in_ok-corners.corners) c.as_slice.ensures c.in_ok-corners.ensures in
    subst (λ xs. AllZip IsTenfoldRow (rows_of_entry (take (i + 1) c.args.rows.now)) (rows_of_entry xs)) (sym c.in_ok-push.ensures.items)
    (ten_rows_more c.args.rows.now c.loop-row.others.items i c.row-item.result
    (record { id = c.row-item.result.id; corners = c.in_ok-corners.corners }) c.loop-row-test.true c.row-item.is
    c.loop-row.invariant (record { number = refl; ring = ten }))

pub returns : goal.returns
returns g c =
    subst (λ xs. AllZip IsTenfoldRow (rows_of_entry xs) (rows_of_entry c.loop-row.others.items))
    (take_all c.loop-row.row-index c.args.rows.now c.loop-row-test.false) c.loop-row.invariant
