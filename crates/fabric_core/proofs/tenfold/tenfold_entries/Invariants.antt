use Rattle.std.proofs.Common.{take}
use Rattle.std.specs.List.{AllZip}
use Rattle.fabric_core.specs.Tenfold.{IsTenfoldEntry}
use Rattle.fabric_core.proofs.tenfold.tenfold_entries.Given as goal

abbrev pub invariant-loop-entry : goal.invariant-loop-entry
invariant-loop-entry g l = AllZip IsTenfoldEntry (take l.entry-index l.entries) l.others.items
