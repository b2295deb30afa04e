use Rattle.std.proofs.Common.{◌≡◌, take}
use Rattle.std.specs.List.{filter}
use Rattle.edge_chains.specs.own.Inside.{is_strictly_inside}
use Rattle.edge_chains.proofs.blocks.inside_of.Given as goal

abbrev pub invariant-loop-corner : goal.invariant-loop-corner
invariant-loop-corner g l = l.found.items ≡ filter (λ c. is_strictly_inside c l.a l.b) (take l.corner-index l.corners)
