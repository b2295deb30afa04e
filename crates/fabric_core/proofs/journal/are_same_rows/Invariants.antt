use Rattle.std.proofs.Common.{◌≡◌, take, length}
use Rattle.fabric_core.specs.own.EntryRows.{rows_of_entry}
use Rattle.fabric_core.proofs.journal.are_same_rows.Given as goal

abbrev pub invariant-loop-place : goal.invariant-loop-place
invariant-loop-place g l = (length l.rows ≡ length l.others)
    × (take l.place (rows_of_entry l.rows) ≡ take l.place (rows_of_entry l.others))
