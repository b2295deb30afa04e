use Rattle.std.proofs.Common.{ap, arith, take, ◌∷◌, []}
use Rattle.geo_exact.specs.Layers.{corner_count}
use Rattle.fabric_core.specs.JournalRows.{row_of}
use Rattle.fabric_core.specs.own.EntryRows.{rows_of_entry}
use Rattle.fabric_core.proofs.rows.Lists.{corner_count-append}
use Rattle.fabric_core.proofs.rows.NewLimits.{entry_more, up_to}
use Rattle.fabric_core.proofs.new_limits.count.Goals as goal

pub overflow_add-sum : goal.overflow_add-sum
overflow_add-sum g c =
    omega (
      arith,
      c.loop-row.invariant,
      c.len-sum.ensures,
      c.requires,
      up_to c.args.rows.now c.loop-row.row-index c.row-item.result c.loop-row-test.true c.row-item.is,
    )

pub loop-row-preserved : goal.loop-row-preserved
loop-row-preserved g c =
    let rows = c.args.rows.now in let k = c.loop-row.row-index in let row = c.row-item.result in
    omega (
      arith,
      c.loop-row.invariant,
      c.len-sum.ensures,
      ap corner_count (entry_more rows k row c.loop-row-test.true c.row-item.is),
      corner_count-append (rows_of_entry (take k rows)) (row_of row ∷ []),
    )
