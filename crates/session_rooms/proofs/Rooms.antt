-- What a session's room answers.
use Rattle.std.proofs.Common.{◌≡◌, inr, false, ap, Result, Ok, Err, OnOk, is_err}
use Rattle.std.proofs.lemmas.Bool.{false≢true}
use Rattle.session_rooms.specs.declared.room.EditFault.{EditFault}
use Rattle.session_rooms.specs.declared.room.EditFault.TheVariants.{Refused, Journal, NoMemory}
use Rattle.ring_edits.specs.declared.edit.Edit.{Edit}
use Rattle.fabric_core.specs.Journal.{JournalEntry}
use Rattle.desk_lock.specs.Offices.{OfficeId, CardState, EndsWith, journal_met, with_made}
use Rattle.session_rooms.specs.Rooms.{IfJournalFails, IfNoLine, IsUnkept}

-- where the journal does not fail, all holds if it does
pub if_never : (fault : EditFault) (P : Type 0) → IfJournalFails fault ⊥ → IfJournalFails fault P
if_never (Refused refusal) P never = tt
if_never Journal P never = absurd never
if_never NoMemory P never = tt

-- where memory is not refused for an edit's line, all holds if it is
pub if_no_line_never : (fault : EditFault) (P : Type 0) → IfNoLine fault ⊥ → IfNoLine fault P
if_no_line_never (Refused refusal) P never = tt
if_no_line_never Journal P never = tt
if_no_line_never NoMemory P never = absurd never

-- an edit that was made, and that no journal keeps
pub made_unkept : {A : Type 0} (office : OfficeId A) (before after : CardState A) (edit : Edit A) (entry : JournalEntry A)
    → entry.edit ≡ edit → entry.clerk ≡ before.clerk → after ≡ with_made before entry after.met
    → EndsWith entry entry.number (journal_met office after) → IsUnkept office before after edit
made_unkept office before after edit entry has_edit has_clerk made ends = inr (entry, has_edit, has_clerk, made, ends)

module _ {T E : Type 0} where
  -- a value is no error
  pub no_error : (value : T) (error : E) → ◌≡◌ {A = Result T E} (Ok value) (Err error) → ⊥
  no_error value error is = false≢true (ap is_err is)

  -- what holds of a value, where there is no error
  pub of_value : (result : Result T E) (P : Type 0) → false ≡ is_err result → OnOk result P → P
  of_value (Ok value) P fine holds = holds
  of_value (Err error) P fine holds = absurd (false≢true fine)
