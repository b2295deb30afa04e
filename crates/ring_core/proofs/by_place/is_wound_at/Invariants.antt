use Rattle.std.proofs.Common.{◌≤◌}
use Rattle.ring_core.proofs.by_place.is_wound_at.Given as goal

abbrev pub invariant-loop-j : goal.invariant-loop-j
invariant-loop-j l = l.near ≤ l.j
