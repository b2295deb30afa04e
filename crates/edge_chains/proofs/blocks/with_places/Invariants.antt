use Rattle.std.proofs.Common.{◌≡◌, ◌++◌, map, drop, get_or}
use Rattle.geo_exact.specs.declared.corner.Corner.{Corner}
use Rattle.edge_chains.proofs.blocks.with_places.Given as goal

abbrev pub invariant-loop-index : goal.invariant-loop-index
invariant-loop-index g l = (none : Corner) → map (λ it. get_or l.corners it.index none) l.placed.items ++ drop l.index l.corners ≡ l.corners
