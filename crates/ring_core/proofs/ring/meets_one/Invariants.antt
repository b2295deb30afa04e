use Rattle.std.proofs.Common.{ℕ, ◌<◌, ◌≤◌}
use Rattle.ring_core.specs.Simple.{MeetOtherwise}
use Rattle.ring_core.proofs.ring.meets_one.Given as goal

abbrev pub invariant-loop-i : goal.invariant-loop-i
invariant-loop-i l = (k : ℕ) → l.start ≤ k → k < l.i → ¬ MeetOtherwise l.ring k l.j
