use Rattle.std.proofs.Common.{◌≡◌, ◌<◌, ℕ, [], get_or, map}
use Rattle.overlay_work.proofs.queues.Queues.are_empty.Given as goal

abbrev pub invariant-loop-list : goal.invariant-loop-list
invariant-loop-list g l = (at : ℕ) → at < l.list-index → get_or (map (λ list. list.now) l.list-items) at [] ≡ []
