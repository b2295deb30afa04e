-- A window may go to another thread where its heap may be shared. Type by type, since a search that goes down through all
-- of them runs out of steps.
use mir.Syntax.{Ty}
use base.Shift.{Keyless}
use denote.RawPtr.{Ptr}
use denote.RattleType.{RattleType}
use denote.Ref.{NamedLft}
use denote.Param.Send.{Frees, IsSend, IsSync, sendable}
use Rattle.std.specs.declared.alloc.Allocator.{Ghosts}
use Rattle.std.proofs.CrossingOver.{crosses}
use Rattle.std.proofs.Crossing.{crosses as own_crosses}
use Rattle.logbook.proofs.tokens.Seen.TheSendSync as seen
use Rattle.atomic_table.proofs.shared.Seat.TheSendSync as seat
use Rattle.atomic_table.proofs.shared.Shared.TheSendSync as table
use Rattle.atomic_table.proofs.send_lease.SendLease.TheSendSync as lease
use Rattle.left_right.proofs.part.Part.TheSendSync as part
use Rattle.left_right.specs.contracts.handles.ReadHandle as ReadHandle
use Rattle.fabric_core.proofs.Crossing.{fabric_sync}
use Rattle.desk_lock.specs.contracts.window.Window as Window
use Rattle.entry_history.specs.declared.history.Naming as histories
use Rattle.desk_lock.specs.declared.name.Naming as offices

reader_send : (T A : RattleType) (a : Ghosts A.Denot) → IsSync T → IsSend A → IsSync A
    → ((b : A.Denot) (τ : Ty) (p : Ptr) → Keyless (a.dealloc_token b τ p)) → IsSend (ReadHandle.the_field T A a).row
reader_send T A a y s z each =
    let f : Frees a a.dealloc_token = record { frees = each } in
    search (seat.the_send, part.the_send, table.the_send, table.the_sync, lease.the_send, lease.the_sync, sendable, crosses, own_crosses)
    depth 30

module _ (H J : RattleType) (g : Ghosts H.Denot) (n : offices.Ghosts J.Denot H.Denot) (h : histories.Ghosts J.Denot) where
  pub window_send : IsSync H → Frees g g.dealloc_token → (κ : NamedLft) → IsSend (Window.the_field κ H J g n h).row
  window_send y f κ = search (f.frees, seen.the_send, seen.the_sync, fabric_sync, reader_send, sendable, own_crosses) depth 20
