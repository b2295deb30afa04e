-- The line of an edit, as a clerk's file in whole millimetres has it (this product's own). Numbers are in decimal.
use Rattle.std.specs.Prelude.{◌≢◌, ⊤, ℕ, ◌^◌, ◌<◌, List, [], ◌∷◌, ◌++◌, codes, decimal}
use Rattle.std.specs.List.{flat_map, enumerate_from}
use Rattle.geo_exact.specs.declared.corner.Corner.{Corner}
use Rattle.ring_edits.specs.declared.edit.Edit.{Edit}
use Rattle.ring_edits.specs.declared.edit.Edit.TheVariants.{Split, Merge, Move, Insert, Straighten}
use Rattle.text_pieces.specs.CornerText.{next_corner_text}
use Rattle.line_files.specs.declared.text_numbers.TheConstants.{MOST_DIGITS}

-- ` X Y X Y ..`
abbrev pub places_text : List Corner → List ℕ
places_text corners = flat_map next_corner_text corners

-- `split ID X Y X Y ..`, `merge ID ID`, `move ID ID X Y X Y ..`, `insert X Y X Y X Y`, `straighten X Y`
abbrev pub edit_text : {A : Type 0} → Edit A → List ℕ
edit_text (Split id path) = codes "split " ++ decimal id ++ places_text path
edit_text (Merge a b) = codes "merge " ++ decimal a ++ codes " " ++ decimal b
edit_text (Move a b path) = codes "move " ++ decimal a ++ codes " " ++ decimal b ++ places_text path
edit_text (Insert from to at) = codes "insert" ++ places_text (from ∷ to ∷ at ∷ [])
edit_text (Straighten at) = codes "straighten" ++ places_text (at ∷ [])

-- its line, which a line feed ends
abbrev pub edit_line : {A : Type 0} → Edit A → List ℕ
edit_line edit = edit_text edit ++ codes "\n"

-- the lines of several edits, one behind the other
abbrev pub edit_lines : {A : Type 0} → List (Edit A) → List ℕ
edit_lines edits = flat_map edit_line edits

-- each edit behind the number of its line, from 1
abbrev pub numbered : {A : Type 0} → List (Edit A) → List (ℕ × Edit A)
numbered edits = enumerate_from 1 edits

-- an edit that a line can say: the number of each parcel has at most 19 digits, and a path has a corner
abbrev pub IsWritable : {A : Type 0} → Edit A → Type 0
IsWritable (Split id path) = (id < 10 ^ MOST_DIGITS) × (path ≢ [])
IsWritable (Merge a b) = (a < 10 ^ MOST_DIGITS) × (b < 10 ^ MOST_DIGITS)
IsWritable (Move a b path) = (a < 10 ^ MOST_DIGITS) × (b < 10 ^ MOST_DIGITS) × (path ≢ [])
IsWritable (Insert from to at) = ⊤
IsWritable (Straighten at) = ⊤
