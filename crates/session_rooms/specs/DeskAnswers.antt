-- What a desk is answered to an edit or a question: one line, of one version of the parcels (this product's own).
use Rattle.std.specs.Prelude.{◌≡◌, ◌≢◌, ◌⊎◌, ⊤, ℕ, ◌≤◌, List, ◌++◌, codes, length, Option, None, Some, IfSome, IsSome}
use Rattle.std.specs.List.{Contains}
use Rattle.std.specs.Borrow.{Bor}
use mathlib.Core.List.{IsPrefix}
use Rattle.geo_exact.specs.Point.{corner_point}
use Rattle.geo_exact.specs.Layers.{NumberedRing, numbered}
use Rattle.geo_exact.specs.declared.corner.Corner.{Corner}
use Rattle.ring_edits.specs.declared.edit.Edit.{Edit}
use Rattle.fabric_core.specs.EditResults.{IsLawful}
use Rattle.fabric_core.specs.Journal.{JournalEntry, replay}
use Rattle.fabric_core.specs.Locate.{IsLocatedAt}
use Rattle.fabric_core.specs.declared.locate.At.{At}
use Rattle.fabric_core.specs.Refusals.{NeedsNoMemory}
use Rattle.fabric_core.specs.declared.refusal.Refusal.{Refusal}
use Rattle.fabric_core.specs.declared.refusal.Refusal.TheVariants.{NoMemory as RefusedForMemory}
use Rattle.desk_lock.specs.Offices.{OfficeId, CardState, WindowState, EndsWith, IsSometime, Learns, IsRefusedWhenMet}
use Rattle.desk_lock.specs.Offices.{IsDueWhenMet, journal_met, with_made, with_met}
use Rattle.desk_lock.specs.declared.window.LocateFault.{LocateFault}
use Rattle.desk_lock.specs.declared.window.LocateFault.TheVariants.{NoVersion as NoVersionFound}
use Rattle.desk_lock.specs.declared.window.LocateFault.TheVariants.{NoMemory as NoMemoryFound}
use Rattle.session_lines.specs.Answers.{accepted_line, refused_line, located_line, parcel_line, no_parcel_line}
use Rattle.session_lines.specs.Answers.{entries_line, error_line, fault_text}
use Rattle.session_lines.specs.declared.faults.SessionFault.{SessionFault}
use Rattle.session_lines.specs.declared.faults.SessionFault.TheVariants.{NoVersion, NoMemory, JournalFailed}
use Rattle.session_lines.specs.declared.faults.SessionFault.TheVariants.{OperatorOnly, NoCard}
use Rattle.session_lines.specs.declared.faults.SessionFault.TheVariants.{NoWindow}
use Rattle.session_lines.specs.declared.line.Line.{Line}
use Rattle.session_lines.specs.declared.line.Line.TheVariants.{Skipped, Edit as AskedEdit, Locate, Parcel, Entries}
use Rattle.session_lines.specs.declared.line.Line.TheVariants.{Overlay}
use Rattle.session_lines.specs.declared.line.Line.TheVariants.{OverlayAreas, Check, Export, Publish, Close}
use Rattle.session_rooms.specs.Asked.{IsAskedBy, IsUnasked}
use Rattle.session_rooms.specs.Kept.{IsOnDisk}
use Rattle.session_rooms.specs.Rooms.{IsUnkept}
use Rattle.session_rooms.specs.declared.answers.Asked.{Asked}
use Rattle.session_rooms.specs.declared.answers.Chair.{Chair}
use Rattle.session_rooms.specs.declared.lines.Came.{Came}
use Rattle.session_rooms.specs.declared.lines.Came.TheVariants.{Line as LineCame}
use Rattle.session_rooms.specs.declared.room.Made.{Made}

-- a text went on by one line, which is such
abbrev pub GoesOnBy : (List ℕ → Type 0) → List ℕ → List ℕ → Type 0
GoesOnBy IsSuch before after = (line : List ℕ) × IsSuch line × (after ≡ before ++ line)

-- the line that tells a fault
abbrev pub IsErrorLine : SessionFault → List ℕ → Type 0
IsErrorLine fault line = line ≡ error_line (fault_text fault)

-- why a window does not answer, as a desk is told
abbrev pub window_fault : LocateFault → SessionFault
window_fault NoVersionFound = NoVersion
window_fault NoMemoryFound = NoMemory

-- the line that tells it
abbrev pub IsWindowError : List ℕ → Type 0
IsWindowError line = IsErrorLine NoVersion line ⊎ IsErrorLine NoMemory line

module _ {A : Type 0} where
  -- the parcels that a window has seen last
  abbrev pub rows_seen : WindowState A → List NumberedRing
  rows_seen window = (replay window.opening window.seen).rows

  -- a window is of the same register as before, and has lost nothing that it saw
  pub record HasGoneOn (before after : WindowState A) : Type 0 where
    pub opening : after.opening ≡ before.opening
    pub begins : IsPrefix before.seen after.seen

  -- so it is, where there is a window; where there was none, there is none
  abbrev pub HasWindowGoneOn : Option (WindowState A) → Option (WindowState A) → Type 0
  HasWindowGoneOn None None = ⊤
  HasWindowGoneOn None (Some after) = ⊥
  HasWindowGoneOn (Some before) None = ⊥
  HasWindowGoneOn (Some before) (Some after) = HasGoneOn before after

  -- where there is a window, it has learnt what was told, and is as before where nothing was
  abbrev pub HasWindowLearnt : Option (WindowState A) → Option (List (JournalEntry A)) → Option (WindowState A) → Type 0
  HasWindowLearnt None told None = ⊤
  HasWindowLearnt None told (Some after) = ⊥
  HasWindowLearnt (Some before) told None = ⊥
  HasWindowLearnt (Some before) None (Some after) = after ≡ before
  HasWindowLearnt (Some before) (Some told) (Some after) = Learns before told after

  -- a card is still its clerk's, and has met what it had met
  pub record IsCardLater (before after : CardState A) : Type 0 where
    pub clerk : after.clerk ≡ before.clerk
    pub begins : IsPrefix before.met after.met

  -- so it is, where there is a card: of the same clerk, later; where there was none, there is none
  abbrev pub IsOfSameClerk : Option (CardState A) → Option (CardState A) → Type 0
  IsOfSameClerk None None = ⊤
  IsOfSameClerk None (Some after) = ⊥
  IsOfSameClerk (Some before) None = ⊥
  IsOfSameClerk (Some before) (Some after) = IsCardLater before after

  -- a card changes only at an edit
  abbrev pub IsCardAfter : Line A → Option (CardState A) → Option (CardState A) → Type 0
  IsCardAfter (AskedEdit edit) before after = IsOfSameClerk before after
  IsCardAfter asked before after = after ≡ before

  -- `at ..`: where a corner lies among the parcels that the window has seen last, and after how many entries
  abbrev pub IsPlaceLine : WindowState A → Corner → List ℕ → Type 0
  IsPlaceLine window corner line = ((at : At A) × IsLawful window.opening window.seen
      × IsLocatedAt (rows_seen window) (corner_point corner) at × (line ≡ located_line (length window.seen) corner at))
      ⊎ IsWindowError line

  -- `parcel ..`: the ring of the parcel with this id among them, or that there is none
  abbrev pub IsRingLine : WindowState A → ℕ → List ℕ → Type 0
  IsRingLine window id line = ((ring : List Corner) × IsLawful window.opening window.seen
      × Contains (rows_seen window) (numbered id ring) × (line ≡ parcel_line (length window.seen) id ring))
      ⊎ ((((row : NumberedRing) → Contains (rows_seen window) row → row.number ≢ id)
      × IsLawful window.opening window.seen × (line ≡ no_parcel_line (length window.seen) id))
      ⊎ IsWindowError line)

  -- `entries ..`: how many entries the window has seen
  abbrev pub IsCountLine : WindowState A → List ℕ → Type 0
  IsCountLine window line = (IsLawful window.opening window.seen × (line ≡ entries_line (length window.seen)))
      ⊎ IsErrorLine NoVersion line

  -- what a window answers; where there is none, that
  abbrev pub IsWindowLine : (WindowState A → List ℕ → Type 0) → Option (WindowState A) → List ℕ → Type 0
  IsWindowLine IsSuch None line = IsErrorLine NoWindow line
  IsWindowLine IsSuch (Some window) line = IsSuch window line

  -- the answer to any line that is no edit, of the window as it is then
  abbrev pub IsPlainLine : Option (WindowState A) → Line A → List ℕ → Type 0
  IsPlainLine window Skipped line = line ≡ codes "skipped\n"
  IsPlainLine window (AskedEdit edit) line = ⊥
  IsPlainLine window (Locate corner) line = IsWindowLine (λ seen. IsPlaceLine seen corner) window line
  IsPlainLine window (Parcel id) line = IsWindowLine (λ seen. IsRingLine seen id) window line
  IsPlainLine window Entries line = IsWindowLine IsCountLine window line
  IsPlainLine window Overlay line = IsErrorLine OperatorOnly line
  IsPlainLine window OverlayAreas line = IsErrorLine OperatorOnly line
  IsPlainLine window Check line = IsErrorLine OperatorOnly line
  IsPlainLine window (Export base) line = IsErrorLine OperatorOnly line
  IsPlainLine window Publish line = IsErrorLine OperatorOnly line
  IsPlainLine window Close line = IsErrorLine OperatorOnly line

  -- it was refused, for a reason that is due after exactly the journal that the card has met then; what is due is told,
  -- unless memory runs out, and some reasons are told whatever memory there is
  pub record IsRefusedAnswer (office : OfficeId A) (before after : CardState A) (edit : Edit A)
      (line : List ℕ) : Type 0 where
    pub refusal : Refusal
    pub is_due : IsRefusedWhenMet office after edit refusal ⊎ (refusal ≡ RefusedForMemory)
    pub refuses : (due : Refusal) → IsDueWhenMet office after edit due → (refusal ≡ due) ⊎ (refusal ≡ RefusedForMemory)
    pub exact : (due : Refusal) → IsDueWhenMet office after edit due → NeedsNoMemory due → refusal ≡ due
    pub unchanged : after ≡ with_met before after.met
    pub told : line ≡ refused_line refusal

  -- no edit was made and kept: `refused ..`; or that the journal failed, where there is one, before the edit was made
  -- or behind it; or that memory ran out for its line, before the office was asked
  abbrev pub IsUnmadeLine : {T : Type 0} → OfficeId A → Option T → CardState A → CardState A → Edit A → List ℕ → Type 0
  IsUnmadeLine office journal before after edit line = IsRefusedAnswer office before after edit line
      ⊎ ((IsErrorLine JournalFailed line × IsSome journal × IsUnkept office before after edit)
      ⊎ (IsErrorLine NoMemory line × (after ≡ before)))

-- what was shown of an edit that was made
abbrev pub shown_of : {H J : Type 0} → Option (Made H J) → Option (List (JournalEntry (Bor H)))
shown_of None = None
shown_of (Some made) = made.notice

module _ {H J T : Type 0} where
  -- An edit was accepted, and made: its entry ends the journal that the card has met then, which is the office's at
  -- some time, so that the parcels which the entry took out and brought follow from it. The disk has its record, where
  -- there is a journal. What was shown then is valid, and reaches the entry; nothing was where memory was refused for
  -- that.
  pub record IsAcceptedAnswer (office : OfficeId (Bor H)) (journal : Option T) (before after : CardState (Bor H))
      (edit : Edit (Bor H)) (made : Made H J) (line : List ℕ) : Type 0 where
    pub has_edit : made.entry.edit ≡ edit
    pub has_clerk : made.entry.clerk ≡ before.clerk
    pub has_card : after ≡ with_made before made.entry after.met
    pub ends : EndsWith made.entry made.entry.number (journal_met office after)
    pub sometime : IsSometime office after (journal_met office after)
    pub on_disk : IsOnDisk journal made.on_disk made.entry.number
    pub lawful : IfSome made.notice (IsLawful office.origin.opening)
    pub reaches : IfSome made.notice (λ shown. made.entry.number ≤ length shown)
    pub told : line ≡ accepted_line made.entry

  -- `ok ..` exactly where the edit was made
  abbrev pub IsEditLine : OfficeId (Bor H) → Option T → CardState (Bor H) → CardState (Bor H) → Edit (Bor H)
      → Option (Made H J) → List ℕ → Type 0
  IsEditLine office journal before after edit (Some made) line =
      IsAcceptedAnswer office journal before after edit made line
  IsEditLine office journal before after edit None line = IsUnmadeLine office journal before after edit line

  -- so is who has a card answered; who has none is told so
  abbrev pub IsCardLine : OfficeId (Bor H) → Option T → Option (CardState (Bor H)) → Option (CardState (Bor H))
      → Edit (Bor H) → Option (Made H J) → List ℕ → Type 0
  IsCardLine office journal None None edit made line = (made ≡ None) × IsErrorLine NoCard line
  IsCardLine office journal None (Some after) edit made line = ⊥
  IsCardLine office journal (Some before) None edit made line = ⊥
  IsCardLine office journal (Some before) (Some after) edit made line =
      IsEditLine office journal before after edit made line

  -- and the window learns what was shown
  pub record IsEditAnswer (office : OfficeId (Bor H)) (journal : Option T) (before after : Chair H J)
      (edit : Edit (Bor H)) (made : Option (Made H J)) (line : List ℕ) : Type 0 where
    pub card : IsCardLine office journal before.card after.card edit made line
    pub window : HasWindowLearnt before.window (shown_of made) after.window

  -- the answer to a line that any desk may be asked, and what was made of it: which call answers which line
  abbrev pub IsAnswerTo : OfficeId (Bor H) → Option T → Chair H J → Chair H J → Line (Bor H) → Option (Made H J)
      → List ℕ → Type 0
  IsAnswerTo office journal before after (AskedEdit edit) made line =
      IsEditAnswer office journal before after edit made line
  IsAnswerTo office journal before after asked made line = (made ≡ None) × IsPlainLine after.window asked line

  -- what came asks for something, and is answered so
  pub record IsAskedAnswer (office : OfficeId (Bor H)) (journal : Option T) (before after : Chair H J) (came : Came)
      (said : List ℕ) (made : Option (Made H J)) (line : List ℕ) : Type 0 where
    pub is_line : came ≡ LineCame
    pub asked : Asked (Bor H)
    pub is_asked : IsAskedBy said asked
    pub is_answer : IsAnswerTo office journal before after asked.line made line
    pub card : IsCardAfter asked.line before.card after.card

module _ {H J : Type 0} where
  -- it is not carried out, and the desk is told why
  pub record IsUnaskedAnswer (before after : Chair H J) (came : Came) (said : List ℕ) (made : Option (Made H J))
      (line : List ℕ) : Type 0 where
    pub fault : SessionFault
    pub is_fault : IsUnasked (Bor H) came said fault
    pub unchanged : after ≡ before
    pub unmade : made ≡ None
    pub told : IsErrorLine fault line

  -- the answer to what came at a desk
  abbrev pub IsAnswerOf : {T : Type 0} → OfficeId (Bor H) → Option T → Chair H J → Chair H J → Came → List ℕ
      → Option (Made H J) → List ℕ → Type 0
  IsAnswerOf office journal before after came said made line =
      IsAskedAnswer office journal before after came said made line
      ⊎ IsUnaskedAnswer before after came said made line
