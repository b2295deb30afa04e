use Rattle.std.proofs.Common.{◌≡◌, ◌≢◌, ℕ, ◌<◌, List, length, slice_index_or}
use Rattle.ring_core.specs.declared.kind.Kind.TheVariants.{Flat, Blocked}
use Rattle.ring_core.specs.own.Kinds.{IsKind}
use Rattle.ring_core.proofs.kind.kinds_of.Given as goal

abbrev pub invariant-loop-k : goal.invariant-loop-k
invariant-loop-k g l = record {
  so_long : length l.kinds.items ≡ l.k;
  each : (numbers : List ℕ) (i : ℕ) → i < l.k → IsKind l.corners numbers i (slice_index_or l.kinds.items i Flat);
  unblocked : (n i : ℕ) → i < l.k → slice_index_or l.kinds.items i Flat ≢ Blocked n;
}
