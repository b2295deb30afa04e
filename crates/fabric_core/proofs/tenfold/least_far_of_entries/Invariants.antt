use Rattle.std.proofs.Common.{◌++◌, List, take}
use Rattle.geo_exact.specs.declared.corner.Corner.{Corner}
use Rattle.scaled_rings.specs.Tenfold.{IsLeastFarOf}
use Rattle.fabric_core.specs.Tenfold.{corners_of_entries}
use Rattle.fabric_core.proofs.tenfold.least_far_of_entries.Given as goal

abbrev pub invariant-loop-entry : goal.invariant-loop-entry
invariant-loop-entry g l = (before : List Corner) → IsLeastFarOf before l.fn.found
    → IsLeastFarOf (before ++ corners_of_entries (take l.entry-index l.entries)) l.least
