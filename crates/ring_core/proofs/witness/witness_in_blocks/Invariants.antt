use Rattle.std.proofs.Common.{ℕ, ◌<◌, length, slice_index_or}
use Rattle.ring_core.specs.declared.blocks.Span.{Span}
use Rattle.leaning_boxes.specs.declared.leaning.LeaningBox.{LeaningBox}
use Rattle.ring_core.specs.Clipping.{Blocks}
use Rattle.ring_core.specs.own.Blocks.{HasCorner}
use Rattle.ring_core.proofs.witness.witness_in_blocks.Given as goal

abbrev pub invariant-loop-b : goal.invariant-loop-b
invariant-loop-b l = (i : ℕ) → i < l.b → (j : ℕ) → j < length l.corners
    → ((span : Span) (box : LeaningBox) → HasCorner l.corners j (slice_index_or l.spans i span) (slice_index_or l.boxes i box))
    → ¬ Blocks l.corners l.k j
