use Rattle.std.proofs.Common.{◌≡◌, ◌++◌, map, take}
use Rattle.overlay_work.specs.Sharing.{joined}
use Rattle.overlay_work.proofs.queues.Queues.put_behind.Given as goal

abbrev pub invariant-loop-list : goal.invariant-loop-list
invariant-loop-list g l = l.items.items ≡ l.initial.items.items ++ joined (map (λ list. list.now) (take l.list-index l.list-items))
