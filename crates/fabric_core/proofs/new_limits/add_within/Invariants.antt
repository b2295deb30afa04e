use Rattle.std.proofs.Common.{◌≡◌, ◌+◌, ◌≤◌, take, length}
use Rattle.std.specs.List.{AllByRecursion}
use Rattle.geo_exact.specs.Layers.{corner_count}
use Rattle.geo_exact.specs.declared.limits.TheConstants.{LAYER_CORNERS, RING_CORNERS}
use Rattle.fabric_core.specs.own.EntryRows.{rows_of_entry}
use Rattle.fabric_core.proofs.new_limits.add_within.Given as goal

abbrev pub invariant-loop-row : goal.invariant-loop-row
invariant-loop-row g l = record {
  total : l.total ≡ l.fn.corners + corner_count (rows_of_entry (take l.row-index l.rows));
  few : l.total ≤ LAYER_CORNERS;
  each : AllByRecursion (λ row. length row.corners ≤ RING_CORNERS) (rows_of_entry (take l.row-index l.rows));
}
