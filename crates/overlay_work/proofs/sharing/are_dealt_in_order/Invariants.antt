use Rattle.std.specs.Prelude.{IsPermutation}
use Rattle.overlay_work.specs.Sharing.{joined}
use Rattle.std.proofs.Common.{map}
use Rattle.overlay_work.proofs.sharing.are_dealt_in_order.Given as goal

abbrev pub invariant-loop-id : goal.invariant-loop-id
invariant-loop-id g l = IsPermutation (joined l.queues) l.id-iterator → IsPermutation (joined (map (λ list. list.items) l.lists)) l.fn.ids
