use denote.RattleType.{RattleType}
use denote.Ref.{NamedLft}
use denote.Param.Send.{Frees, IsSend, IsSync, sendable}
use Rattle.std.specs.declared.alloc.Allocator.{Ghosts}
use Rattle.std.proofs.CrossingOver.{crosses}
use Rattle.std.proofs.Crossing.{crosses as own_crosses}
use Rattle.entry_history.specs.declared.history.Naming as histories
use Rattle.desk_lock.specs.declared.name.Naming as offices
use Rattle.clerk_runs.proofs.Crossing.{card_send, office_sync}
use Rattle.office_tests.specs.contracts.readers.Answer as Answer
use Rattle.office_tests.specs.contracts.readers.Worker as Worker
use Rattle.office_tests.proofs.Crossing.{window_send}
use Rattle.office_tests.proofs.readers.read_meanwhile.Goals as goal

-- here, and not beside the others, since these two types are there with the tests alone
answer_send : (H : RattleType) (g : Ghosts H.Denot) → IsSync H → Frees g g.dealloc_token → (κ : NamedLft)
    → IsSend (Answer.the_field κ H g).row
answer_send H g y f κ = search (f.frees, sendable, crosses, own_crosses) depth 20

module _ (H J : RattleType) (g : Ghosts H.Denot) (n : offices.Ghosts J.Denot H.Denot) (h : histories.Ghosts J.Denot) where
  worker_send : IsSync H → Frees g g.dealloc_token → (κ : NamedLft) (W : RattleType) → IsSend W
      → IsSend (Worker.the_field κ H J W g n h).row
  worker_send y f κ W w = search (f.frees, card_send, window_send, answer_send, sendable, crosses, own_crosses) depth 20

pub do_all-requires-sync-C : goal.do_all-requires-sync-C
do_all-requires-sync-C g c κs within =
    let sync = c.type_bounds.sync-H in
    let frees = c.type_bounds.frees-H-Allocator in
    search (office_sync, sendable) depth 20

pub do_all-requires-send-J : goal.do_all-requires-send-J
do_all-requires-send-J g c κs within =
    let sync = c.type_bounds.sync-H in
    let frees = c.type_bounds.frees-H-Allocator in
    let rt = c.type_bounds.send-R in
    search (worker_send, sendable) depth 20
