use Rattle.std.proofs.Common.{◌++◌}
use Rattle.fabric_core.specs.own.Lists.{AreShapesOfRings}
use Rattle.fabric_core.proofs.clipped.clip_each.Given as goal

abbrev pub invariant-loop-ring : goal.invariant-loop-ring
invariant-loop-ring g l = (more : _) → AreShapesOfRings l.ring-iterator.rest.items more
    → AreShapesOfRings l.fn.rings.items (l.shapes.items ++ more)
