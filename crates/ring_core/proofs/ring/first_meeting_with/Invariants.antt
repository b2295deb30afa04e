use Rattle.std.proofs.Common.{ℕ, ◌<◌}
use Rattle.ring_core.specs.Simple.{MeetOtherwise}
use Rattle.ring_core.proofs.ring.first_meeting_with.Given as goal

abbrev pub invariant-loop-j : goal.invariant-loop-j
invariant-loop-j l = (k : ℕ) → l.i < k → k < l.j → ¬ MeetOtherwise l.ring l.i k
