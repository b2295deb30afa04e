use Rattle.std.proofs.Common.{◌≡◌, ◌++◌, drop}
use Rattle.edge_chains.specs.Noding.{all_corners}
use Rattle.fabric_core.proofs.refine.corners_of_all.Given as goal

abbrev pub invariant-loop-ring : goal.invariant-loop-ring
invariant-loop-ring g l = l.corners.items ++ all_corners (drop l.ring-index l.rings) ≡ all_corners l.rings
