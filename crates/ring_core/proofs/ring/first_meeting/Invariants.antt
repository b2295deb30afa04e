use Rattle.std.proofs.Common.{ℕ, ◌<◌, length}
use Rattle.ring_core.specs.Simple.{MeetOtherwise}
use Rattle.ring_core.proofs.ring.first_meeting.Given as goal

abbrev pub invariant-loop-i : goal.invariant-loop-i
invariant-loop-i l = record {
  passed : (k m : ℕ) → k < l.i → k < m → m < length l.ring → ¬ MeetOtherwise l.ring k m;
  clear : (k m : ℕ) → k < l.clear → k < m → m < length l.ring → ¬ MeetOtherwise l.ring k m;
}
