use Rattle.std.proofs.Common.{◌≡◌, take}
use Rattle.fabric_core.specs.own.EntryRows.{rows_of_entry}
use Rattle.fabric_core.specs.Tiling.{corner_lists}
use Rattle.fabric_core.specs.own.Changes.{rings_of_shapes}
use Rattle.fabric_core.proofs.new_shapes.simple_shapes.Given as goal

abbrev pub invariant-loop-which : goal.invariant-loop-which
invariant-loop-which g l = rings_of_shapes l.shapes.items ≡ take l.which (corner_lists (rows_of_entry l.rows))
