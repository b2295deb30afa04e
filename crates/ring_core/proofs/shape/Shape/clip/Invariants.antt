use Rattle.std.proofs.Common.{◌≤◌, length}
use Rattle.ring_core.specs.Clipping.{Clips}
use Rattle.ring_core.proofs.shape.Shape.clip.Given as goal

abbrev pub invariant-loop-rest : goal.invariant-loop-rest
invariant-loop-rest g l = record {
  clipped : Clips l.ring.corners l.triangles l.rest;
  two_left : 2 ≤ length l.rest;
}

abbrev pub decreases-loop-rest : goal.decreases-loop-rest
decreases-loop-rest g l = length l.rest
