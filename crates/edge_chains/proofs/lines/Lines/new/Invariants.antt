use Rattle.std.proofs.Common.{◌≡◌, ◌++◌, map, drop}
use Rattle.std.specs.List.{All}
use Rattle.edge_chains.specs.own.Lines.{rank_of}
use Rattle.edge_chains.proofs.lines.Lines.new.Given as goal

abbrev pub invariant-loop-corner : goal.invariant-loop-corner
invariant-loop-corner g l = record {
  corners : map (λ it. it.corner) l.ranked.items ++ drop l.corner-index l.corners ≡ l.corners;
  ranks : All (λ it. it.rank ≡ rank_of l.steps.across l.steps.up it.corner) l.ranked.items;
}
