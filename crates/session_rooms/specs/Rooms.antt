-- What a session's room answers where an edit is not made, or nothing is shown, and the sheets that it draws (this
-- product's own).
use Rattle.std.specs.Prelude.{◌≡◌, ◌⊎◌, [], Option, IsSome}
use Rattle.ring_edits.specs.declared.edit.Edit.{Edit}
use Rattle.fabric_core.specs.EditResults.{IsLawful}
use Rattle.fabric_core.specs.Journal.{JournalEntry, Book, replay}
use Rattle.fabric_core.specs.Tiling.{IsTiling}
use Rattle.desk_lock.specs.Offices.{OfficeId, CardState, EndsWith, IsSheetOf, journal_met, with_made}
use Rattle.fabric_core.specs.declared.refusal.Refusal.{Refusal}
use Rattle.session_lines.specs.declared.faults.SessionFault.{SessionFault}
use Rattle.session_lines.specs.declared.faults.SessionFault.TheVariants.{JournalFailed, NoMemory as WantsMemory}
use Rattle.session_rooms.specs.declared.room.EditFault.{EditFault}
use Rattle.session_rooms.specs.declared.room.EditFault.TheVariants.{Refused, Journal, NoMemory}

-- where the office refused the edit, its reason is such
abbrev pub IfRefused : EditFault → (Refusal → Type 0) → Type 0
IfRefused (Refused refusal) is = is refusal
IfRefused Journal is = Unit {0}
IfRefused NoMemory is = Unit {0}

-- where the journal did not fail; where it did, the edit may have been made, and is shown to nobody
abbrev pub UnlessJournalFails : EditFault → Type 0 → Type 0
UnlessJournalFails (Refused refusal) holds = holds
UnlessJournalFails Journal holds = Unit {0}
UnlessJournalFails NoMemory holds = holds

-- where the journal failed
abbrev pub IfJournalFails : EditFault → Type 0 → Type 0
IfJournalFails (Refused refusal) holds = Unit {0}
IfJournalFails Journal holds = holds
IfJournalFails NoMemory holds = Unit {0}

-- where memory was refused for the edit's line
abbrev pub IfNoLine : EditFault → Type 0 → Type 0
IfNoLine (Refused refusal) holds = Unit {0}
IfNoLine Journal holds = Unit {0}
IfNoLine NoMemory holds = holds

module _ {A : Type 0} where
  -- an edit that no journal keeps: the office was not asked; or it made the edit, whose entry ends the journal that the
  -- card has met then
  abbrev pub IsUnkept : OfficeId A → CardState A → CardState A → Edit A → Type 0
  IsUnkept office before after edit = (after ≡ before)
      ⊎ ((entry : JournalEntry A) × (entry.edit ≡ edit) × (entry.clerk ≡ before.clerk)
      × (after ≡ with_made before entry after.met) × EndsWith entry entry.number (journal_met office after))

-- the room's journal could not be written, where it has one
abbrev pub IsJournalFault : {T : Type 0} → Option T → SessionFault → Type 0
IsJournalFault journal fault = (fault ≡ JournalFailed) × IsSome journal

-- why a room shows nothing, or draws nothing: that, or memory ran out
abbrev pub IsRoomFault : {T : Type 0} → Option T → SessionFault → Type 0
IsRoomFault journal fault = IsJournalFault journal fault ⊎ (fault ≡ WantsMemory)

-- a sheet of the office: the entries that it opened with, and behind them its clerks'; what it has is what these lead
-- to, and tiles the city
pub record IsDrawn {A : Type 0} (office : OfficeId A) (sheet : Book A) : Type 0 where
  pub is_sheet : IsSheetOf office [] sheet
  pub is_lawful : IsLawful sheet.opening sheet.journal
  pub leads : replay sheet.opening sheet.journal ≡ sheet.now
  pub is_tiling : IsTiling sheet.now.rows sheet.city
