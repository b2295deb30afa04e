use Rattle.std.proofs.Common.{◌≡◌, ℕ, ◌<◌, ◌≤◌, length, slice_index_or}
use Rattle.std.specs.List.Sorted.{IsNonDecreasing}
use Rattle.ring_core.proofs.marks.numbers_of.Given as goal

abbrev pub invariant-loop-k : goal.invariant-loop-k
invariant-loop-k g l = record {
  so_long : length l.numbers.items ≡ l.k;
  ascend : IsNonDecreasing l.numbers.items;
  below : (i : ℕ) → i < l.k → (slice_index_or l.numbers.items i 0 ≤ l.k) × (slice_index_or l.numbers.items i 0 ≤ 65535);
}
