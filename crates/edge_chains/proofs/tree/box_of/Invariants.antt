use Rattle.std.proofs.Common.{ℕ, ◌<◌, ◌≤◌, slice_index_or}
use Rattle.geo_exact.specs.declared.corner.Corner.{Corner}
use Rattle.leaning_boxes.specs.Leaning.{IsHeld}
use Rattle.edge_chains.proofs.tree.box_of.Given as goal

abbrev pub invariant-loop-k : goal.invariant-loop-k
invariant-loop-k l = (k : ℕ) (c : Corner) → l.start ≤ k → k < l.k → IsHeld l.held (slice_index_or l.corners k c)
