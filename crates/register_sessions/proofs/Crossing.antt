-- What the desks of a session share may be shared between threads, and a desk may go to a thread of its own, where the heap may be
-- shared. Type by type, since a search that goes down through all of them runs out of steps.
use mir.Syntax.{Ty}
use base.Shift.{Keyless}
use denote.RawPtr.{Ptr}
use denote.RattleType.{RattleType}
use denote.Ref.{NamedLft}
use denote.Param.Send.{Frees, IsSend, IsSync, sendable}
use Rattle.std.specs.declared.alloc.Allocator.{Ghosts}
use Rattle.std.proofs.CrossingOver.{crosses}
use Rattle.std.proofs.Crossing.{crosses as own_crosses}
use Rattle.logbook.proofs.tokens.Seen.TheSendSync as seen
use Rattle.atomic_table.proofs.shared.Seat.TheSendSync as seat
use Rattle.atomic_table.proofs.shared.Shared.TheSendSync as table
use Rattle.atomic_table.proofs.send_lease.SendLease.TheSendSync as lease
use Rattle.left_right.proofs.part.Part.TheSendSync as part
use Rattle.left_right.specs.contracts.handles.ReadHandle as ReadHandle
use Rattle.fabric_core.proofs.Crossing.{fabric_sync}
use Rattle.desk_lock.specs.contracts.window.Window as Window
use Rattle.entry_history.specs.declared.history.Naming as histories
use Rattle.desk_lock.specs.declared.name.Naming as offices
use Rattle.journal_writers.specs.declared.file.JournalFile as files
use Rattle.journal_writers.specs.declared.synced.Synchroniser as synchronisers
use Rattle.session_rooms.specs.contracts.door.Door as Door
use Rattle.session_rooms.specs.contracts.journal.Journal as Journal
use Rattle.session_rooms.specs.contracts.room.Room as Room
use Rattle.session_rooms.specs.contracts.answers.Chair as Chair
use Rattle.register_sessions.specs.contracts.pipes.Paths as Paths
use Rattle.register_sessions.specs.contracts.desks.Desk as Desk
use Rattle.register_sessions.specs.contracts.journal_file.DiskFile as DiskFile
use Rattle.register_sessions.specs.contracts.serving.Shared as Shared
use Rattle.clerk_runs.proofs.Crossing.{card_send, office_sync}

door_sync : IsSync Door.the_field.row
door_sync = search (sendable, own_crosses) depth 20

file_send : IsSend DiskFile.the_field.row
file_send = search (sendable, own_crosses) depth 20

journal_sync : (F A K : RattleType) (f : files.Ghosts F.Denot) (a : Ghosts A.Denot) (b : synchronisers.Ghosts K.Denot) → IsSend F
    → IsSend K → IsSync K → IsSync (Journal.the_field F A K f a b).row
journal_sync F A K f a b s l y = search (sendable, own_crosses) depth 20

paths_sync : (A : RattleType) (a : Ghosts A.Denot) → IsSync A → IsSync (Paths.the_field A a).row
paths_sync A a y = search (sendable, crosses, own_crosses) depth 20

reader_send : (T A : RattleType) (a : Ghosts A.Denot) → IsSync T → IsSend A → IsSync A
    → ((b : A.Denot) (τ : Ty) (p : Ptr) → Keyless (a.dealloc_token b τ p)) → IsSend (ReadHandle.the_field T A a).row
reader_send T A a y s z each =
    let f : Frees a a.dealloc_token = record { frees = each } in
    search (seat.the_send, part.the_send, table.the_send, table.the_sync, lease.the_send, lease.the_sync, sendable, crosses, own_crosses)
    depth 30

module _ (H J : RattleType) (g : Ghosts H.Denot) (n : offices.Ghosts J.Denot H.Denot) (h : histories.Ghosts J.Denot) where
  module _ (y : IsSync H) (f : Frees g g.dealloc_token) where
    window_send : (κ : NamedLft) → IsSend (Window.the_field κ H J g n h).row
    window_send κ = search (f.frees, seen.the_send, seen.the_sync, fabric_sync, reader_send, sendable, own_crosses) depth 20

    chair_send : (κ : NamedLft) → IsSend (Chair.the_field κ H J g n h).row
    chair_send κ = search (card_send, window_send, sendable) depth 20

    pub desk_send : (p κ : NamedLft) → IsSend (Desk.the_field p κ H J g n h).row
    desk_send p κ = search (chair_send, paths_sync, sendable, own_crosses) depth 20

  module _ (R K : RattleType) (b : synchronisers.Ghosts K.Denot) (y : IsSync H) (f : Frees g g.dealloc_token) (r : IsSync R)
      (l : IsSend K) (k : IsSync K) where
    room_sync : (F : RattleType) (c : files.Ghosts F.Denot) (ρ κ : NamedLft) → IsSend F
        → IsSync (Room.the_field ρ κ H J R F K n h g c b).row
    room_sync F c ρ κ s = search (office_sync, journal_sync, door_sync, sendable, own_crosses) depth 20

    pub shared_sync : (P : RattleType) → IsSync P → (σ ρ κ : NamedLft) → IsSync (Shared.the_field σ ρ κ P H J R K n h g b).row
    shared_sync P q σ ρ κ = search (room_sync, file_send, paths_sync, sendable) depth 20
