use Rattle.std.proofs.Common.{◌≡◌, map, take}
use Rattle.overlay_work.specs.Sharing.{joined}
use Rattle.overlay_work.proofs.sharing.joined_lists.Given as goal

abbrev pub invariant-loop-list : goal.invariant-loop-list
invariant-loop-list g l = l.all.items ≡ joined (map (λ list. list.items) (take l.list-index l.lists))
