-- An office may be shared, and its cards and receipts may go to other threads, where its heap may. Type by type, since a
-- search that goes down through all of them runs out of steps.
use mir.Syntax.{Ty}
use base.Fml.{Fml}
use base.Shift.{Keyless}
use denote.RawPtr.{Ptr}
use denote.RattleType.{RattleType}
use denote.Ref.{NamedLft}
use denote.Param.Send.{Frees, IsSend, IsSync, sendable}
use Rattle.std.specs.declared.alloc.Allocator.{Ghosts}
use Rattle.std.proofs.CrossingOver.{crosses}
use Rattle.std.proofs.Crossing.{crosses as own_crosses}
use Rattle.logbook.proofs.tokens.Seen.TheSendSync as seen
use Rattle.logbook.proofs.word.Word.TheSendSync as word
use Rattle.atomic_table.proofs.badge.Badge.TheSendSync as badge
use Rattle.atomic_table.proofs.shared.Seat.TheSendSync as seat
use Rattle.atomic_table.proofs.shared.Shared.TheSendSync as shared
use Rattle.atomic_table.proofs.send_lease.SendLease.TheSendSync as lease
use Rattle.left_right.proofs.part.Part.TheSendSync as part
use Rattle.left_right.proofs.part.Deed.TheSendSync as deed
use Rattle.atomic_table.specs.declared.shared.TableRule as rules
use Rattle.left_right.specs.declared.Absorb as absorbs
use Rattle.published_copies.specs.declared.version.Follows as follows
use Rattle.entry_history.specs.declared.history.Naming as histories
use Rattle.desk_lock.specs.declared.name.Naming as offices
use Rattle.atomic_table.specs.contracts.owned.Table as Table
use Rattle.left_right.specs.contracts.handles.WriteHandle as WriteHandle
use Rattle.entry_history.specs.contracts.front.Front as Front
use Rattle.entry_history.specs.contracts.history.History as History
use Rattle.entry_cards.specs.contracts.stub.Stub as Stub
use Rattle.entry_cards.specs.contracts.keeper.Keeper as Keeper
use Rattle.published_copies.specs.contracts.shown.Shown as Shown
use Rattle.published_copies.specs.contracts.version.Version as Version
use Rattle.published_copies.specs.contracts.version.Enqueued as Enqueued
use Rattle.published_copies.specs.contracts.copies.Copies as Copies
use Rattle.published_copies.specs.contracts.publisher.Publisher as Publisher
use Rattle.fabric_core.proofs.Crossing.{entry_send, fabric_send, fabric_sync}
use Rattle.desk_lock.specs.contracts.card.Card as Card
use Rattle.desk_lock.specs.contracts.receipt.Notice as Notice
use Rattle.desk_lock.specs.contracts.receipt.Receipt as Receipt
use Rattle.desk_lock.specs.contracts.copied.Copied as Copied
use Rattle.desk_lock.specs.contracts.desk.Desk as Desk
use Rattle.desk_lock.specs.contracts.office.Office as Office

-- for `search`, which otherwise builds records last of all
frees_of : {D : Type 0} {G : Type 1} (g : G) (holds : D → Ty → Ptr → Fml)
    → ((a : D) (τ : Ty) (p : Ptr) → Keyless (holds a τ p)) → Frees g holds
frees_of g holds each = record { frees = each }

module _ (S V K P : RattleType) (r : rules.Ghosts P.Denot S.Denot V.Denot K.Denot) (A : RattleType) (g : Ghosts A.Denot) where
  table_send : IsSend S → IsSend A → Frees g g.dealloc_token → IsSend (Table.the_field S V K P A r g).row
  table_send s a f = search (shared.the_send, lease.the_send, sendable) depth 20

  table_sync : IsSend S → IsSend A → IsSync A → Frees g g.dealloc_token → IsSync (Table.the_field S V K P A r g).row
  table_sync s a y f = search (shared.the_sync, lease.the_sync, sendable) depth 20

module _ (E : RattleType) where
  stub_send : IsSend (Stub.the_field E).row
  stub_send = search (badge.the_send, sendable) depth 20

  keeper_send : (A : RattleType) (g : Ghosts A.Denot) → IsSend A → Frees g g.dealloc_token → IsSend (Keeper.the_field E A g).row
  keeper_send A g a f = search (seat.the_send, table_send, sendable) depth 20

module _ (E J : RattleType) (h : histories.Ghosts J.Denot) where
  front_send : IsSend (Front.the_field E J h).row
  front_send = search (seen.the_send, sendable) depth 20

  front_sync : IsSync (Front.the_field E J h).row
  front_sync = search (seen.the_sync, sendable) depth 20

  history_send : IsSend (History.the_field E J h).row
  history_send = search (word.the_send, sendable) depth 20

  shown_send : IsSend (Shown.the_field E J h).row
  shown_send = search (front_send, sendable) depth 20

  enqueued_send : IsSend E → IsSend (Enqueued.the_field E J h).row
  enqueued_send e = search (front_send, sendable) depth 20

module _ (F E J : RattleType) (w : follows.Ghosts F.Denot E.Denot) (h : histories.Ghosts J.Denot) where
  version_send : IsSend F → IsSend (Version.the_field F E J w h).row
  version_send s = search (front_send, sendable) depth 20

  version_sync : IsSync F → IsSync (Version.the_field F E J w h).row
  version_sync y = search (front_sync, sendable) depth 20

module _ (V O R A S : RattleType) (b : absorbs.Ghosts V.Denot O.Denot S.Denot) (g : Ghosts A.Denot) where
  handle_send : IsSend V → IsSync V → IsSend O → IsSend R → IsSend A → IsSync A → Frees g g.dealloc_token
      → IsSend (WriteHandle.the_field V O R A S b g).row
  handle_send v y o r a z f =
      search (seat.the_send, part.the_send, deed.the_send, table_send, table_sync, sendable, crosses, own_crosses) depth 30

  copies_send : IsSend V → IsSync V → IsSend O → IsSend R → IsSend A → IsSync A → Frees g g.dealloc_token
      → IsSend (Copies.the_field V O R A S b g).row
  copies_send v y o r a z f = search (handle_send, sendable) depth 20

module _ (F E J R A : RattleType) (w : follows.Ghosts F.Denot E.Denot) (h : histories.Ghosts J.Denot) (g : Ghosts A.Denot) where
  publisher_send : IsSend F → IsSync F → IsSend E → IsSend R → IsSend A → IsSync A → Frees g g.dealloc_token
      → IsSend (Publisher.the_field F E J R A w h g).row
  publisher_send s y e r a z f =
      search (history_send, front_send, shown_send, enqueued_send, version_send, version_sync, copies_send, sendable, own_crosses) depth 20

module _ (κ : NamedLft) (H J : RattleType) (g : Ghosts H.Denot) (n : offices.Ghosts J.Denot H.Denot) (h : histories.Ghosts J.Denot) where
  copied_send : IsSync H → Frees g g.dealloc_token → IsSend (Copied.the_field κ H J g n h).row
  copied_send y f = search (fabric_send, sendable) depth 20

  copied_sync : IsSync H → IsSync (Copied.the_field κ H J g n h).row
  copied_sync y = search (fabric_sync, sendable) depth 20

  pub card_send : IsSync H → IsSend (Card.the_field κ H J g n h).row
  card_send y = search (stub_send, sendable) depth 20

  notice_send : IsSend (Notice.the_field κ H J g n h).row
  notice_send = search (shown_send, sendable) depth 20

  pub receipt_send : IsSync H → Frees g g.dealloc_token → IsSend (Receipt.the_field κ H J g n h).row
  receipt_send y f = search (f.frees, entry_send, notice_send, sendable) depth 20

  module _ (R : RattleType) (y : IsSync H) (f : Frees g g.dealloc_token) (r : IsSend R) where
    desk_send : IsSend (Desk.the_field κ H J R g n h).row
    desk_send =
        search (
          frees_of,
          f.frees,
          fabric_send,
          keeper_send,
          publisher_send,
          copied_send,
          copied_sync,
          entry_send,
          sendable,
          own_crosses,
        ) depth 20

    pub office_sync : IsSync (Office.the_field κ H J R n h g).row
    office_sync = search (desk_send, sendable, own_crosses) depth 20
