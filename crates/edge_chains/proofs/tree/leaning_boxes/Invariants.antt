use Rattle.std.proofs.Common.{◌≡◌, ℕ, ◌*◌, ◌<◌, length}
use Rattle.edge_chains.specs.own.Tree.{HasLeaning}
use Rattle.edge_chains.specs.declared.blocks.TheConstants.{GROUP}
use Rattle.edge_chains.proofs.tree.leaning_boxes.Given as goal

abbrev pub invariant-loop-group : goal.invariant-loop-group
invariant-loop-group g l = record {
  as_many : length l.boxes.items ≡ l.group;
  so_far : (i : ℕ) → i < l.group → i * GROUP < length l.corners → HasLeaning l.corners l.ends l.boxes.items i;
}
