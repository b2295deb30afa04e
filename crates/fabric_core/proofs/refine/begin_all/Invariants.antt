use Rattle.std.proofs.Common.{◌≡◌, ◌++◌, take, drop, map}
use Rattle.geo_exact.specs.Rings.{begun_at_least}
use Rattle.fabric_core.proofs.refine.begin_all.Given as goal

abbrev pub invariant-loop-ring : goal.invariant-loop-ring
invariant-loop-ring g l = l.rings ≡ map begun_at_least (take l.ring-index l.fn.rings) ++ drop l.ring-index l.fn.rings
