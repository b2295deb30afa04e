use Rattle.std.proofs.Common.{ℕ, ◌<◌, ◌≤◌}
use Rattle.ring_core.specs.Clipping.{Blocks}
use Rattle.ring_core.proofs.witness.witness_between.Given as goal

abbrev pub invariant-loop-j : goal.invariant-loop-j
invariant-loop-j l = (i : ℕ) → l.start ≤ i → i < l.j → ¬ Blocks l.corners l.k i
