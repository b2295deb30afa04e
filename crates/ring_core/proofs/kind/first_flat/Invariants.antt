use Rattle.std.proofs.Common.{◌≢◌, ℕ, ◌<◌, ◌≤◌, slice_index_or}
use Rattle.ring_core.specs.declared.kind.Kind.TheVariants.{Flat}
use Rattle.ring_core.proofs.kind.first_flat.Given as goal

abbrev pub invariant-loop-k : goal.invariant-loop-k
invariant-loop-k l = (j : ℕ) → l.start ≤ j → j < l.k → slice_index_or l.kinds j Flat ≢ Flat
