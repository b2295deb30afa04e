-- Files of a clerk's edits, a line for each edit (this product's own).
use Rattle.std.specs.Prelude.{◌≡◌, ◌≢◌, ⊤, ℕ, ◌==◌, List, [], ◌∷◌, codes, Option, None, Some}
use Rattle.std.specs.List.{slice_split}
use Rattle.geo_exact.specs.declared.corner.Corner.{Corner}
use Rattle.ring_edits.specs.declared.edit.Edit.{Edit}
use Rattle.ring_edits.specs.declared.edit.Edit.TheVariants.{Split, Merge, Move, Insert, Straighten}
use Rattle.line_files.specs.TextLines.{lines_of, AreSaid, IsFirstBad, FirstSays}
use Rattle.line_files.specs.Grids.{grid_of, behind_grid}
use Rattle.line_files.specs.TextNumbers.{IsNumber, AreCornerWords}
use Rattle.line_files.specs.declared.grids.Grid.{Grid}

-- the words of a line, which is cut at each space (32); where two stand side by side, or one at an end of the line,
-- there is an empty word
abbrev pub words_of : List ℕ → List (List ℕ)
words_of line = slice_split (λ b. b == 32) line

-- `X Y X Y ..`, the coordinates of one or more corners
pub record ArePath (grid : Grid) (words : List (List ℕ)) (path : List Corner) : Type 0 where
  pub are_corners : AreCornerWords grid words path
  pub has_one : path ≢ []

-- `split ID X Y X Y ..`
pub record IsSplitLine (grid : Grid) (words : List (List ℕ)) (id : ℕ) (path : List Corner) : Type 0 where
  pub parcel : List ℕ
  pub places : List (List ℕ)
  pub are_words : words ≡ codes "split" ∷ parcel ∷ places
  pub is_parcel : IsNumber parcel id
  pub are_places : ArePath grid places path

-- `merge ID ID`
pub record IsMergeLine (words : List (List ℕ)) (a b : ℕ) : Type 0 where
  pub first : List ℕ
  pub second : List ℕ
  pub are_words : words ≡ codes "merge" ∷ first ∷ second ∷ []
  pub is_first : IsNumber first a
  pub is_second : IsNumber second b

-- `move ID ID X Y X Y ..`
pub record IsMoveLine (grid : Grid) (words : List (List ℕ)) (a b : ℕ) (path : List Corner) : Type 0 where
  pub first : List ℕ
  pub second : List ℕ
  pub places : List (List ℕ)
  pub are_words : words ≡ codes "move" ∷ first ∷ second ∷ places
  pub is_first : IsNumber first a
  pub is_second : IsNumber second b
  pub are_places : ArePath grid places path

-- `insert X Y X Y X Y`: the one end of the edge, the other, and the new corner
pub record IsInsertLine (grid : Grid) (words : List (List ℕ)) (from to at : Corner) : Type 0 where
  pub places : List (List ℕ)
  pub are_words : words ≡ codes "insert" ∷ places
  pub are_places : AreCornerWords grid places (from ∷ to ∷ at ∷ [])

-- `straighten X Y`: the corner that is taken out
pub record IsStraightenLine (grid : Grid) (words : List (List ℕ)) (at : Corner) : Type 0 where
  pub places : List (List ℕ)
  pub are_words : words ≡ codes "straighten" ∷ places
  pub are_places : AreCornerWords grid places (at ∷ [])

-- the words say this edit
abbrev pub SayEdit : {A : Type 0} → Grid → List (List ℕ) → Edit A → Type 0
SayEdit grid words (Split id path) = IsSplitLine grid words id path
SayEdit grid words (Merge a b) = IsMergeLine words a b
SayEdit grid words (Move a b path) = IsMoveLine grid words a b path
SayEdit grid words (Insert from to at) = IsInsertLine grid words from to at
SayEdit grid words (Straighten at) = IsStraightenLine grid words at

-- the words say an edit
abbrev pub SayAnEdit : (A : Type 0) → Grid → List (List ℕ) → Type 0
SayAnEdit A grid words = (edit : Edit A) × SayEdit grid words edit

-- the words say this edit, or none
abbrev pub IsEditOf : {A : Type 0} → Grid → List (List ℕ) → Option (Edit A) → Type 0
IsEditOf {A} grid words None = (edit : Edit A) → ¬ SayEdit grid words edit
IsEditOf grid words (Some edit) = SayEdit grid words edit

-- the line has this number and says this edit
pub record SaysEdit {A : Type 0} (grid : Grid) (number : ℕ) (line : List ℕ) (entry : ℕ × Edit A) : Type 0 where
  pub is_number : entry.0 ≡ number
  pub is_edit : SayEdit grid (words_of line) entry.1

-- each line but a first `grid cm` is skipped or says an edit, on the grid that this line names; and the list has, in
-- order, the number, from 1, and the edit of each that is not skipped
abbrev pub IsClerkFile : {A : Type 0} → List ℕ → List (ℕ × Edit A) → Type 0
IsClerkFile bytes list = AreSaid (SaysEdit (grid_of (lines_of bytes))) 1 (behind_grid (lines_of bytes)) list

-- the number, from 1, of the first line but a first `grid cm` that is not skipped and says no edit (of edits in
-- whatever memory, here none)
abbrev pub IsFirstBadLine : List ℕ → ℕ → Type 0
IsFirstBadLine bytes n = IsFirstBad (SaysEdit {A = ⊤} (grid_of (lines_of bytes))) 1 (behind_grid (lines_of bytes)) n

-- the first line but a first `grid cm` that is not skipped says an edit (of edits in whatever memory, here none)
abbrev pub BeginsWithEdit : List ℕ → Type 0
BeginsWithEdit bytes = FirstSays (SaysEdit {A = ⊤} (grid_of (lines_of bytes))) 1 (behind_grid (lines_of bytes))
