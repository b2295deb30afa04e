use Rattle.std.proofs.Common.{◌≡◌, [], take, length}
use Rattle.edge_chains.specs.Counts.{AreNetOf}
use Rattle.edge_chains.specs.Noding.{all_corners}
use Rattle.fabric_core.specs.own.Lists.{corners_of_rings}
use Rattle.fabric_core.proofs.gaps.net_numbers.Given as goal

abbrev pub invariant-loop-ring : goal.invariant-loop-ring
invariant-loop-ring g l = record {
  net : AreNetOf l.sum (corners_of_rings (take l.ring-index l.rings)) [];
  edges : l.sum.edges ≡ length (all_corners (corners_of_rings (take l.ring-index l.rings)));
}
