use Rattle.std.proofs.Common.{◌≡◌, ℕ, ◌<◌, ◌≤◌, ◌*◌, ◌+◌, length}
use Rattle.std.specs.Prelude.{slice_index_or}
use Rattle.leaning_boxes.specs.declared.leaning.LeaningBox.{LeaningBox}
use Rattle.ring_core.specs.own.ByPlace.{HoldsEdge, edge_at}
use Rattle.ring_core.proofs.by_place.boxes_of.Given as goal

abbrev pub invariant-loop-b : goal.invariant-loop-b
invariant-loop-b l = record {
  as_many : length l.boxes.items ≡ l.b;
  each : (k p : ℕ) (d : LeaningBox) → k < l.b → 8 * k ≤ p → p < 8 * k + 8 → p < length l.edges
      → HoldsEdge (slice_index_or l.boxes.items k d) l.ring (edge_at l.edges p);
}
