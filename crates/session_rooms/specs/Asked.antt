-- What a line that came to a desk asks for, and who asks it (this product's own). Before an edit may stand the client's
-- own word for who asks and why: `by WHO: EDIT`.
use Rattle.std.specs.Prelude.{◌≡◌, ◌⊎◌, ℕ, List, []}
use Rattle.ring_edits.specs.declared.edit.Edit.{Edit}
use Rattle.journal_records.specs.Words.{SaysWho}
use Rattle.session_lines.specs.Lines.{Asks, AsksForEdit}
use Rattle.session_lines.specs.declared.line.Line.{Line}
use Rattle.session_lines.specs.declared.line.Line.TheVariants.{Edit as AskedEdit}
use Rattle.session_lines.specs.declared.faults.SessionFault.{SessionFault}
use Rattle.session_lines.specs.declared.faults.SessionFault.TheVariants.{BadLine, NoMemory, Closed}
use Rattle.session_rooms.specs.declared.answers.Asked.{Asked}
use Rattle.session_rooms.specs.declared.lines.Came.{Came}
use Rattle.session_rooms.specs.declared.lines.Came.TheVariants.{Line as LineCame, TooLong as TooLongCame}
use Rattle.session_rooms.specs.declared.lines.Came.TheVariants.{NoMemory as NoMemoryCame}
use Rattle.session_rooms.specs.declared.lines.Came.TheVariants.{End as EndCame, Closed as ClosedCame}

module _ {A : Type 0} where
  -- the line alone asks for this, and does not say who asks
  pub record IsAskedAlone (line : List ℕ) (asked : Asked A) : Type 0 where
    pub nobody : asked.who.now ≡ []
    pub asks : Asks line asked.line

  -- the line is `by WHO: EDIT`, and this edit is asked for
  pub record IsAskedByWord (line : List ℕ) (asked : Asked A) : Type 0 where
    pub said : List ℕ
    pub edit : Edit A
    pub says_who : SaysWho line asked.who.now said
    pub asks : Asks said (AskedEdit edit)
    pub is_asked : asked.line ≡ AskedEdit edit

  -- the line asks for this, and says who asks, or says it not
  abbrev pub IsAskedBy : List ℕ → Asked A → Type 0
  IsAskedBy line asked = IsAskedAlone line asked ⊎ IsAskedByWord line asked

-- the line is `by WHO: EDIT`, with whatever word and edit
abbrev pub AsksForEditByWord : Type 0 → List ℕ → Type 0
AsksForEditByWord A line = (who : List ℕ) × (said : List ℕ) × SaysWho line who said × AsksForEdit A said

-- the line asks for nothing: neither alone, nor behind a word
pub record AsksForNothing (A : Type 0) (line : List ℕ) : Type 0 where
  pub not_alone : (asked : Line A) → ¬ Asks line asked
  pub not_by_word : ¬ AsksForEditByWord A line

-- why a line that came whole is not carried out: it asks for nothing, or memory is refused for the edit it asks for
abbrev pub IsLineFault : Type 0 → List ℕ → SessionFault → Type 0
IsLineFault A line fault = ((fault ≡ BadLine) × AsksForNothing A line)
    ⊎ ((fault ≡ NoMemory) × (AsksForEdit A line ⊎ AsksForEditByWord A line))

-- why what came is not carried out
abbrev pub IsUnasked : Type 0 → Came → List ℕ → SessionFault → Type 0
IsUnasked A LineCame line fault = IsLineFault A line fault
IsUnasked A TooLongCame line fault = fault ≡ BadLine
IsUnasked A NoMemoryCame line fault = fault ≡ NoMemory
IsUnasked A EndCame line fault = fault ≡ Closed
IsUnasked A ClosedCame line fault = fault ≡ Closed
