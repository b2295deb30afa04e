use Rattle.std.proofs.Common.{◌≡◌, map, take}
use Rattle.overlay_work.proofs.sharing.queues_of.Given as goal

abbrev pub invariant-loop-list : goal.invariant-loop-list
invariant-loop-list g l = l.queues ≡ map (λ list. list.items) (take l.list-index l.lists)
