use Rattle.std.proofs.Common.{◌≡◌, take}
use Rattle.geo_exact.specs.Layers.{corner_count}
use Rattle.fabric_core.specs.own.EntryRows.{rows_of_entry}
use Rattle.fabric_core.proofs.new_limits.count.Given as goal

abbrev pub invariant-loop-row : goal.invariant-loop-row
invariant-loop-row g l = l.sum ≡ corner_count (rows_of_entry (take l.row-index l.rows))
