-- The lines of a session, and what each asks for (this product's own). A line is without its line feed, and without the
-- carriage return before that. Coordinates are in whole millimetres.
use Rattle.std.specs.Prelude.{◌≡◌, ◌≢◌, ℕ, List, [], ◌∷◌, ◌++◌, codes, IsUtf8}
use Rattle.geo_exact.specs.declared.corner.Corner.{Corner}
use Rattle.ring_edits.specs.declared.edit.Edit.{Edit as EditValue}
use Rattle.line_files.specs.TextLines.{IsSkipped}
use Rattle.line_files.specs.TextNumbers.{IsNumber, IsCornerText}
use Rattle.line_files.specs.ClerkFile.{words_of, SayEdit}
use Rattle.line_files.specs.declared.grids.Grid.TheVariants.{Millimetres}
use Rattle.session_lines.specs.declared.line.Line.{Line}
use Rattle.session_lines.specs.declared.line.Line.TheVariants.{Skipped, Edit, Locate, Parcel, Entries, Overlay, Check}
use Rattle.session_lines.specs.declared.line.Line.TheVariants.{Export, Publish, OverlayAreas, Close}

-- `locate X Y`
pub record IsLocateLine (words : List (List ℕ)) (corner : Corner) : Type 0 where
  pub x : List ℕ
  pub y : List ℕ
  pub are_words : words ≡ codes "locate" ∷ x ∷ y ∷ []
  pub is_corner : IsCornerText Millimetres x y corner

-- `parcel ID`
pub record IsParcelLine (words : List (List ℕ)) (id : ℕ) : Type 0 where
  pub number : List ℕ
  pub are_words : words ≡ codes "parcel" ∷ number ∷ []
  pub is_number : IsNumber number id

-- `export BASE`: BASE is all that stands behind the one space, is not empty, and is text (UTF-8)
pub record IsExportLine (line base : List ℕ) : Type 0 where
  pub is_line : line ≡ codes "export " ++ base
  pub is_not_empty : base ≢ []
  pub is_text : IsUtf8 base

-- the line asks for this
abbrev pub Asks : {A : Type 0} → List ℕ → Line A → Type 0
Asks line Skipped = IsSkipped line
Asks line (Edit edit) = SayEdit Millimetres (words_of line) edit
Asks line (Locate corner) = IsLocateLine (words_of line) corner
Asks line (Parcel id) = IsParcelLine (words_of line) id
Asks line Entries = line ≡ codes "entries"
Asks line Overlay = line ≡ codes "overlay"
Asks line OverlayAreas = line ≡ codes "overlay areas"
Asks line Check = line ≡ codes "check"
Asks line (Export base) = IsExportLine line base.now
Asks line Publish = line ≡ codes "publish"
Asks line Close = line ≡ codes "close"

-- the line asks for an edit
abbrev pub AsksForEdit : (A : Type 0) → List ℕ → Type 0
AsksForEdit A line = (edit : EditValue A) × Asks line (Edit edit)

-- both ask for the same; the bases of two exports are compared as texts
abbrev pub AskTheSame : {A : Type 0} → Line A → Line A → Type 0
AskTheSame (Export base) (Export other) = base.now ≡ other.now
AskTheSame asked other = asked ≡ other
