use Rattle.std.proofs.Common.{◌≡◌, take}
use Rattle.geo_exact.specs.Layers.{corner_count}
use Rattle.fabric_core.specs.Limits.{AreWithinLimits}
use Rattle.fabric_core.specs.own.Lists.{numbered_rows}
use Rattle.fabric_core.proofs.limits.first_too_many.Given as goal

abbrev pub invariant-loop-i : goal.invariant-loop-i
invariant-loop-i g l = record {
  total : l.total ≡ corner_count (numbered_rows (take l.i l.numbers) (take l.i l.rings));
  within : AreWithinLimits (numbered_rows (take l.i l.numbers) (take l.i l.rings));
}
