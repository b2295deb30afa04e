use Rattle.std.proofs.Common.{◌≡◌, ℕ, ◌*◌, ◌+◌, ◌<◌, ◌≤◌, length, vec_len}
use Rattle.edge_chains.specs.own.Blocks.{HasBlock}
use Rattle.edge_chains.proofs.blocks.block_boxes.Given as goal

abbrev pub invariant-loop-at : goal.invariant-loop-at
invariant-loop-at g l = record {
  in_range : l.at * 4 < length l.corners + 4;
  as_many : vec_len l.boxes ≡ length l.ends;
  blocks : (k : ℕ) → l.at ≤ k → k * 4 < length l.corners → HasBlock l.corners l.ends l.boxes.items k;
}

abbrev pub decreases-loop-at : goal.decreases-loop-at
decreases-loop-at g l = l.at
