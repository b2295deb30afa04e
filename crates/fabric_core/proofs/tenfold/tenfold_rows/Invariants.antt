use Rattle.std.proofs.Common.{take}
use Rattle.std.specs.List.{AllZip}
use Rattle.fabric_core.specs.Tenfold.{IsTenfoldRow}
use Rattle.fabric_core.specs.own.EntryRows.{rows_of_entry}
use Rattle.fabric_core.proofs.tenfold.tenfold_rows.Given as goal

abbrev pub invariant-loop-row : goal.invariant-loop-row
invariant-loop-row g l = AllZip IsTenfoldRow (rows_of_entry (take l.row-index l.rows)) (rows_of_entry l.others.items)
