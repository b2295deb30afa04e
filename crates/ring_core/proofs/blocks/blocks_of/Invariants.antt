use Rattle.std.proofs.Common.{◌≡◌, ◌*◌, length}
use Rattle.ring_core.proofs.searches.BlocksMade.{AreBlocksBelow}
use Rattle.ring_core.proofs.blocks.blocks_of.Given as goal

abbrev pub invariant-loop-b : goal.invariant-loop-b
invariant-loop-b g l = record {
  same_length : length l.boxes.items ≡ length l.spans.items;
  below : AreBlocksBelow l.corners (16 * l.b) l.spans.items l.boxes.items;
}
