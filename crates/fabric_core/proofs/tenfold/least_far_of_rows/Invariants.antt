use Rattle.std.proofs.Common.{◌++◌, List, take}
use Rattle.geo_exact.specs.declared.corner.Corner.{Corner}
use Rattle.scaled_rings.specs.Tenfold.{IsLeastFarOf}
use Rattle.fabric_core.specs.Tenfold.{corners_of_rows}
use Rattle.fabric_core.specs.own.EntryRows.{rows_of_entry}
use Rattle.fabric_core.proofs.tenfold.least_far_of_rows.Given as goal

abbrev pub invariant-loop-row : goal.invariant-loop-row
invariant-loop-row g l = (before : List Corner) → IsLeastFarOf before l.fn.found
    → IsLeastFarOf (before ++ corners_of_rows (rows_of_entry (take l.row-index l.rows))) l.least
