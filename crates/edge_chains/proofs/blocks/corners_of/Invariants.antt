use Rattle.std.proofs.Common.{◌≡◌, ◌++◌, map, drop, get_or}
use Rattle.edge_chains.proofs.blocks.corners_of.Given as goal

abbrev pub invariant-loop-it : goal.invariant-loop-it
invariant-loop-it g l = l.found.items ++ map (λ it. get_or l.corners it.index l.none) (drop l.it-index l.placed)
    ≡ map (λ it. get_or l.corners it.index l.none) l.placed
