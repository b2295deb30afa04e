-- What the operator is answered: which call answers which line, of which sheet.
use Rattle.std.specs.Prelude.{◌≡◌, ◌≢◌, ◌⊎◌, Bool, true, false, ℕ, List, [], ◌++◌, length, codes, Option, None, Some}
use Rattle.std.specs.Prelude.{Result}
use Rattle.std.specs.Borrow.{Bor}
use mathlib.Core.List.{IsPrefix}
use Rattle.fabric_core.specs.EditResults.{IsLawful}
use Rattle.fabric_core.specs.Journal.{JournalEntry, Book}
use Rattle.fabric_core.specs.Rows.{Tiles}
use Rattle.desk_lock.specs.Offices.{OfficeId, WindowState, AreOfClerks, behind}
use Rattle.city_layers.specs.declared.fault.ToolFault.{ToolFault}
use Rattle.parcel_runs.specs.CheckReport.{tiling_line}
use Rattle.session_lines.specs.Answers.{published_line}
use Rattle.session_lines.specs.declared.line.Line.{Line}
use Rattle.session_lines.specs.declared.line.Line.TheVariants.{Skipped, Edit, Locate, Parcel, Entries, Overlay, Check}
use Rattle.session_lines.specs.declared.line.Line.TheVariants.{Export, Publish}
use Rattle.session_lines.specs.declared.line.Line.TheVariants.{OverlayAreas, Close}
use Rattle.session_lines.specs.declared.faults.SessionFault.{SessionFault}
use Rattle.session_lines.specs.declared.faults.SessionFault.TheVariants.{NoZones}
use Rattle.session_rooms.specs.declared.answers.Asked.{Asked}
use Rattle.session_rooms.specs.declared.answers.Chair.{Chair}
use Rattle.session_rooms.specs.declared.lines.Came.{Came}
use Rattle.session_rooms.specs.declared.lines.Came.TheVariants.{Line as LineCame}
use Rattle.session_rooms.specs.declared.room.Made.{Made}
use Rattle.session_rooms.specs.Asked.{IsAskedBy, IsUnasked}
use Rattle.session_rooms.specs.DeskAnswers.{GoesOnBy, HasWindowGoneOn, HasWindowLearnt, IsOfSameClerk, IsCardAfter}
use Rattle.session_rooms.specs.DeskAnswers.{IsErrorLine}
use Rattle.session_rooms.specs.DeskAnswers.{IsAnswerTo, IsAnswerOf}
use Rattle.session_rooms.specs.Rooms.{IsRoomFault, IsDrawn}
use Rattle.register_sessions.specs.declared.post.Next.{Next}
use Rattle.register_sessions.specs.declared.post.Next.TheVariants.{Line as NextLine, End as NextEnd}
use Rattle.register_sessions.specs.own.Overlays.{AnswersOverlay, AnswersAreas}
use Rattle.register_sessions.specs.own.OwnFiles.{IsFreeBase}
use Rattle.register_sessions.specs.own.Exports.{IsExported, IsOwnFileLine, IsObstacleLine}
use Rattle.register_sessions.specs.own.Posts.{Outbox}

module _ {W : Type 0} where
  -- one answer more was collected, which is such, and nothing was written
  abbrev pub Collects : (List ℕ → Type 0) → Outbox W → Outbox W → Type 0
  Collects IsSuch before after = GoesOnBy IsSuch before.text after.text × (after.out ≡ before.out)

module _ {A : Type 0} where
  -- the report of a check of a sheet, and its end
  abbrev pub check_report : Book A → List ℕ
  check_report sheet = tiling_line sheet.now.rows sheet.city ++ codes ".\n"

  -- the table of a sheet and of zones is told, with the areas or without them
  abbrev pub TellsOverlay : {W : Type 0} → (W → Option (List ℕ)) → Bool → Book A → Tiles → Outbox W → Outbox W → Type 0
  TellsOverlay written false sheet zones before after =
      AnswersOverlay sheet.now.rows zones.rows (length sheet.journal) before.text after.text
      (written before.out) (written after.out)
  TellsOverlay written true sheet zones before after =
      AnswersAreas sheet.now.rows zones.rows (length sheet.journal) before.text after.text
      (written before.out) (written after.out)

  -- so it is of zones of the sheet's city; where the zones are another city's, there are none
  abbrev pub IsOverlayReport : {W : Type 0} → (W → Option (List ℕ)) → Bool → Book A → Tiles → Outbox W → Outbox W
      → Type 0
  IsOverlayReport written has_areas sheet zones before after =
      ((zones.city ≡ sheet.city) × TellsOverlay written has_areas sheet zones before after)
      ⊎ ((zones.city ≢ sheet.city) × Collects (IsErrorLine NoZones) before after)

-- the line that says why a room draws no sheet, or shows nothing
abbrev pub IsRoomLine : {T : Type 0} → Option T → List ℕ → Type 0
IsRoomLine journal line = (fault : SessionFault) × IsRoomFault journal fault × IsErrorLine fault line

module _ {A : Type 0} where
  -- entries of the office are shown; how many is told, and the window has learnt them
  pub record IsPublished (office : OfficeId A) (before after : Option (WindowState A)) (line : List ℕ) : Type 0 where
    pub shown : List (JournalEntry A)
    pub is_lawful : IsLawful office.origin.opening shown
    pub begins : IsPrefix office.origin.journal shown
    pub of_clerks : AreOfClerks office.clerks (behind office.origin shown)
    pub is_told : line ≡ published_line (length shown)
    pub is_learnt : HasWindowLearnt before (Some shown) after

  -- the parcels of a sheet of the office were exported to a base
  pub record IsExportOfOffice {X : Type 0}
      (replace_gives : X → List ℕ → List ℕ → List ℕ → Result (Unit {0}) ToolFault → Type 0)
      (office : OfficeId A) (exports : X) (base text : List ℕ) : Type 0 where
    pub sheet : Book A
    pub is_sheet : IsDrawn office sheet
    pub is_exported : IsExported replace_gives exports base sheet.now.rows text

module _ {A T : Type 0} where
  -- `check`: of a sheet of the office
  abbrev pub IsCheckAnswer : OfficeId A → Option T → List ℕ → Type 0
  IsCheckAnswer office journal text =
      ((sheet : Book A) × IsDrawn office sheet × (text ≡ check_report sheet)) ⊎ IsRoomLine journal text

  -- `publish`: they are, or it is told why nothing is shown
  abbrev pub IsPublishAnswer : OfficeId A → Option T → Option (WindowState A) → Option (WindowState A) → List ℕ → Type 0
  IsPublishAnswer office journal before after line =
      IsPublished office before after line ⊎ (IsRoomLine journal line × (after ≡ before))

  -- of a sheet of the office and these zones; or why the room draws none
  abbrev pub IsZonesAnswer : {W : Type 0} → (W → Option (List ℕ)) → Bool → OfficeId A → Option T → Tiles → Outbox W
      → Outbox W → Type 0
  IsZonesAnswer written has_areas office journal zones before after =
      ((sheet : Book A) × IsDrawn office sheet × IsOverlayReport written has_areas sheet zones before after)
      ⊎ Collects (IsRoomLine journal) before after

  -- `overlay` and `overlay areas`: of the session's zones, where there are some
  abbrev pub IsOverlayAnswer : {W : Type 0} → (W → Option (List ℕ)) → Bool → OfficeId A → Option T → Option Tiles
      → Outbox W → Outbox W → Type 0
  IsOverlayAnswer written has_areas office journal None before after = Collects (IsErrorLine NoZones) before after
  IsOverlayAnswer written has_areas office journal (Some zones) before after =
      IsZonesAnswer written has_areas office journal zones before after

  -- where no file of the session's own would be replaced, what is in the way is told; else a sheet of the office is
  -- exported, or it is told why the room draws none
  abbrev pub IsFreeExport : {X : Type 0} → (X → List ℕ → Option (List ℕ) → Type 0)
      → (X → List ℕ → List ℕ → List ℕ → Result (Unit {0}) ToolFault → Type 0) → OfficeId A → Option T → X
      → List ℕ → List ℕ → Type 0
  IsFreeExport finds replace_gives office journal exports base text = IsObstacleLine finds exports base text
      ⊎ (finds exports base None × (IsExportOfOffice replace_gives office exports base text ⊎ IsRoomLine journal text))

  -- `export BASE`: that is told exactly where a file of the session's own would be replaced
  abbrev pub IsExportAnswer : {X : Type 0} → (X → List ℕ → Option (ℕ × ℕ) → Type 0)
      → (X → List ℕ → Option (List ℕ) → Type 0)
      → (X → List ℕ → List ℕ → List ℕ → Result (Unit {0}) ToolFault → Type 0) → OfficeId A → Option T → X
      → List (List ℕ) → List ℕ → List ℕ → Type 0
  IsExportAnswer tells finds replace_gives office journal exports files base text =
      IsOwnFileLine tells exports files base text
      ⊎ (IsFreeBase tells exports files base × IsFreeExport finds replace_gives office journal exports base text)

-- what follows a line: it is the last one where it closes the session
abbrev pub next_of : {A : Type 0} → Line A → Next
next_of Skipped = NextLine
next_of (Edit edit) = NextLine
next_of (Locate corner) = NextLine
next_of (Parcel id) = NextLine
next_of Entries = NextLine
next_of Overlay = NextLine
next_of OverlayAreas = NextLine
next_of Check = NextLine
next_of (Export base) = NextLine
next_of Publish = NextLine
next_of Close = NextEnd

module _ {H J T : Type 0} where
  -- what any desk is answered to what came
  pub record IsDeskAnswer (office : OfficeId (Bor H)) (journal : Option T) (chair later : Chair H J) (came : Came)
      (said text : List ℕ) : Type 0 where
    pub made : Option (Made H J)
    pub is_answer : IsAnswerOf office journal chair later came said made text
    pub card : IsOfSameClerk chair.card later.card
    pub window : HasWindowGoneOn chair.window later.window

  -- what the operator, too, is answered to a line that any desk may be asked
  pub record IsCommonAnswer (office : OfficeId (Bor H)) (journal : Option T) (chair later : Chair H J)
      (line : Line (Bor H)) (text : List ℕ) : Type 0 where
    pub made : Option (Made H J)
    pub is_answer : IsAnswerTo office journal chair later line made text
    pub card : IsCardAfter line chair.card later.card
    pub window : HasWindowGoneOn chair.window later.window

  -- Which call answers which of the operator's lines: with what may be told of a path, found at an export's base, and
  -- given there, what a writer tells that was written, and the paths of the session's own files. `close` is answered
  -- once all desks have ended.
  module _ {X W : Type 0} (tells : X → List ℕ → Option (ℕ × ℕ) → Type 0)
      (finds : X → List ℕ → Option (List ℕ) → Type 0)
      (replace_gives : X → List ℕ → List ℕ → List ℕ → Result (Unit {0}) ToolFault → Type 0)
      (written : W → Option (List ℕ)) (office : OfficeId (Bor H)) (journal : Option T) (exports : X)
      (files : List (List ℕ)) (zones : Option Tiles) where
    abbrev pub IsOperatorAnswer : Chair H J → Chair H J → Line (Bor H) → Outbox W → Outbox W → Type 0
    IsOperatorAnswer chair later Check before after =
        (later ≡ chair) × Collects (IsCheckAnswer office journal) before after
    IsOperatorAnswer chair later Overlay before after =
        (later ≡ chair) × IsOverlayAnswer written false office journal zones before after
    IsOperatorAnswer chair later OverlayAreas before after =
        (later ≡ chair) × IsOverlayAnswer written true office journal zones before after
    IsOperatorAnswer chair later (Export base) before after =
        (later ≡ chair)
        × Collects (IsExportAnswer tells finds replace_gives office journal exports files base.now) before after
    IsOperatorAnswer chair later Publish before after =
        (later.card ≡ chair.card) × Collects (IsPublishAnswer office journal chair.window later.window) before after
    IsOperatorAnswer chair later Close before after = (later ≡ chair) × (after ≡ before)
    IsOperatorAnswer chair later line before after =
        Collects (IsCommonAnswer office journal chair later line) before after

    -- what came is answered: what its line asks for, or why it asks for nothing
    pub record IsAskedOfOperator (chair later : Chair H J) (came : Came) (said : List ℕ) (before : Outbox W)
        (next : Next) (after : Outbox W) : Type 0 where
      pub is_line : came ≡ LineCame
      pub asked : Asked (Bor H)
      pub is_asked : IsAskedBy said asked
      pub is_answer : IsOperatorAnswer chair later asked.line before after
      pub follows : next ≡ next_of asked.line

    pub record IsUnaskedOfOperator (chair later : Chair H J) (came : Came) (said : List ℕ) (before : Outbox W)
        (next : Next) (after : Outbox W) : Type 0 where
      pub fault : SessionFault
      pub is_fault : IsUnasked (Bor H) came said fault
      pub unchanged : later ≡ chair
      pub is_told : Collects (IsErrorLine fault) before after
      pub follows : next ≡ NextLine

    abbrev pub IsOperatorAnswerOf : Chair H J → Chair H J → Came → List ℕ → Outbox W → Next → Outbox W → Type 0
    IsOperatorAnswerOf chair later came said before next after =
        IsAskedOfOperator chair later came said before next after
        ⊎ IsUnaskedOfOperator chair later came said before next after
