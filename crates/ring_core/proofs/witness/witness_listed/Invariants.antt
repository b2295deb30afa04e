use Rattle.std.proofs.Common.{ℕ, ◌<◌, ◌≤◌, length, slice_index_or}
use Rattle.ring_core.specs.declared.sorted.Axis.{Axis}
use Rattle.ring_core.specs.declared.sorted.Listed.{Listed}
use Rattle.ring_core.specs.Clipping.{Blocks}
use Rattle.ring_core.specs.own.Sorted.{IsListed}
use Rattle.ring_core.proofs.witness.witness_listed.Given as goal

abbrev pub invariant-loop-i : goal.invariant-loop-i
invariant-loop-i l = (i : ℕ) → l.fn.span.start ≤ i → i < l.i → (j : ℕ) (axis : Axis) → j < length l.corners
    → ((d : Listed) → IsListed axis l.corners l.numbers j (slice_index_or l.list i d)) → ¬ Blocks l.corners l.k j
