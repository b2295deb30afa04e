use Rattle.std.proofs.Common.{take}
use Rattle.std.specs.List.{AllZip}
use Rattle.fabric_core.specs.own.Lists.{IsIdOf}
use Rattle.fabric_core.proofs.candidates.ids_under.Given as goal

abbrev pub invariant-loop-key : goal.invariant-loop-key
invariant-loop-key g l = AllZip (IsIdOf l.parcels.parcels) (take l.key-index l.keys) l.ids.items
