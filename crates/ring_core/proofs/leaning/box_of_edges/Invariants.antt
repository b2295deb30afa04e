use Rattle.std.proofs.Common.{ℕ, ◌<◌, ◌≤◌, length}
use Rattle.geo_exact.specs.Places.{after, corner_at}
use Rattle.leaning_boxes.specs.Leaning.{IsHeld}
use Rattle.ring_core.proofs.leaning.box_of_edges.Given as goal

abbrev pub invariant-loop-i : goal.invariant-loop-i
invariant-loop-i l = record {
  first : IsHeld l.held (corner_at l.ring l.start);
  rest : (k : ℕ) → l.start ≤ k → k < l.i → IsHeld l.held (corner_at l.ring (after (length l.ring) k));
}
