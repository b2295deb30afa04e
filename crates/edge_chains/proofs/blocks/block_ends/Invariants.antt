use Rattle.edge_chains.specs.own.Blocks.{AreEnds}
use Rattle.edge_chains.proofs.blocks.block_ends.Given as goal

abbrev pub invariant-loop-group : goal.invariant-loop-group
invariant-loop-group g l = AreEnds l.n l.ends.items
