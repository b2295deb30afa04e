use Rattle.std.proofs.Common.{◌≡◌}
use Rattle.register_sessions.proofs.reports.step_until_done.Given as goal

-- it is a hand of the round that it was of
abbrev pub invariant-loop : goal.invariant-loop
invariant-loop g l = l.hand.task ≡ l.fn.hand.task
