use Rattle.std.proofs.Common.{◌≡◌, ℕ, ◌<◌, ◌≤◌, slice_index_or}
use Rattle.ring_core.specs.declared.blocks.Span.{Span}
use Rattle.ring_core.proofs.searches.BlocksKept.{IsLess}
use Rattle.ring_core.proofs.blocks.close_gap.Given as goal

abbrev pub invariant-loop-b : goal.invariant-loop-b
invariant-loop-b l = record {
  done : (i : ℕ) → i < l.b → (d : Span) → IsLess l.k (slice_index_or l.initial.spans i d) (slice_index_or l.spans i d);
  unread : (i : ℕ) → l.b ≤ i → (d : Span) → slice_index_or l.spans i d ≡ slice_index_or l.initial.spans i d;
}
