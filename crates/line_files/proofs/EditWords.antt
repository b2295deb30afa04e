-- The words of an edit's line: the first, which tells the kind of edit, and those behind it.
use Rattle.std.proofs.Common.{◌≡◌, ℕ, List, [], ◌∷◌, ◌++◌, refl, ap, sym, ◌∙◌, append_assoc, append-nil, codes, decimal}
use Rattle.std.specs.Fmt.{signed_decimal}
use Rattle.std.specs.List.{AllByRecursion}
use Rattle.geo_exact.specs.declared.corner.Corner.{Corner}
use Rattle.ring_edits.specs.declared.edit.Edit.{Edit}
use Rattle.ring_edits.specs.declared.edit.Edit.TheVariants.{Split, Merge, Move, Insert, Straighten}
use Rattle.line_files.specs.ClerkFile.{SayEdit}
use Rattle.line_files.specs.TextNumbers.{AreCornerWords}
use Rattle.line_files.specs.declared.grids.Grid.{Grid}
use Rattle.line_files.specs.declared.grids.Grid.TheVariants.{Millimetres}
use Rattle.line_files.specs.EditLine.{places_text, edit_text, IsWritable}
use Rattle.line_files.proofs.Bytes.{AreFrom, from_test}
use Rattle.line_files.proofs.Numbers.{number_back, number_from, number_small, corner_back, signed_from}

-- two coordinates a corner
abbrev pub path_words : List Corner → List (List ℕ)
path_words [] = []
path_words (corner ∷ corners) = signed_decimal corner.x ∷ signed_decimal corner.y ∷ path_words corners

abbrev pub name_of : {A : Type 0} → Edit A → List ℕ
name_of (Split id path) = codes "split"
name_of (Merge a b) = codes "merge"
name_of (Move a b path) = codes "move"
name_of (Insert from to at) = codes "insert"
name_of (Straighten at) = codes "straighten"

abbrev pub behind_name : {A : Type 0} → Edit A → List (List ℕ)
behind_name (Split id path) = decimal id ∷ path_words path
behind_name (Merge a b) = decimal a ∷ decimal b ∷ []
behind_name (Move a b path) = decimal a ∷ decimal b ∷ path_words path
behind_name (Insert from to at) = path_words (from ∷ to ∷ at ∷ [])
behind_name (Straighten at) = path_words (at ∷ [])

-- words, each behind a space
abbrev pub behind_spaces : List (List ℕ) → List ℕ
behind_spaces [] = []
behind_spaces (word ∷ words) = 32 ∷ (word ++ behind_spaces words)

-- ---- the text is these words with spaces between them
two_words : (a b rest : List ℕ) → a ++ codes " " ++ b ++ rest ≡ a ++ 32 ∷ (b ++ rest)
two_words a b rest = append_assoc (a ++ codes " ") b rest ∙ append_assoc a (codes " ") (b ++ rest)

places_are_words : (corners : List Corner) → places_text corners ≡ behind_spaces (path_words corners)
places_are_words [] = refl
places_are_words (corner ∷ corners) =
    let x = signed_decimal corner.x in
    let y = signed_decimal corner.y in
    ap (λ t. 32 ∷ t) (two_words x y (places_text corners) ∙ ap (λ t. x ++ 32 ∷ (y ++ t)) (places_are_words corners))

pub text_is_words : {A : Type 0} (edit : Edit A) → edit_text edit ≡ name_of edit ++ behind_spaces (behind_name edit)
text_is_words (Split id path) = ap (λ t. codes "split " ++ decimal id ++ t) (places_are_words path)
text_is_words (Merge a b) = ap (λ t. codes "merge " ++ t)
    (append_assoc (decimal a) (codes " ") (decimal b) ∙ ap (λ t. decimal a ++ 32 ∷ t) (sym (append-nil (decimal b))))
text_is_words (Move a b path) = ap (λ t. codes "move " ++ t)
    (two_words (decimal a) (decimal b) (places_text path) ∙ ap (λ t. decimal a ++ 32 ∷ (decimal b ++ t)) (places_are_words path))
text_is_words (Insert from to at) = ap (λ t. codes "insert" ++ t) (places_are_words (from ∷ to ∷ at ∷ []))
text_is_words (Straighten at) = ap (λ t. codes "straighten" ++ t) (places_are_words (at ∷ []))

-- ---- the words say the edit
corners_back : (corners : List Corner) → AreCornerWords Millimetres (path_words corners) corners
corners_back [] = refl
corners_back (corner ∷ corners) =
    (signed_decimal corner.x, signed_decimal corner.y, path_words corners, refl, corner_back corner, corners_back corners)

pub words_say : {A : Type 0} (edit : Edit A) → IsWritable edit → SayEdit Millimetres (name_of edit ∷ behind_name edit) edit
words_say (Split id path) h = record {
  parcel = decimal id;
  places = path_words path;
  are_words = refl;
  is_parcel = number_back id h.0;
  are_places = record { are_corners = corners_back path; has_one = h.1 };
}
words_say (Merge a b) h = record {
  first = decimal a;
  second = decimal b;
  are_words = refl;
  is_first = number_back a h.0;
  is_second = number_back b h.1;
}
words_say (Move a b path) h = record {
  first = decimal a;
  second = decimal b;
  places = path_words path;
  are_words = refl;
  is_first = number_back a h.0;
  is_second = number_back b h.1;
  are_places = record { are_corners = corners_back path; has_one = h.2 };
}
words_say (Insert from to at) h = record {
  places = path_words (from ∷ to ∷ at ∷ []);
  are_words = refl;
  are_places = corners_back (from ∷ to ∷ at ∷ []);
}
words_say (Straighten at) h = record {
  places = path_words (at ∷ []);
  are_words = refl;
  are_places = corners_back (at ∷ []);
}

-- what words say can be written
pub writable_said : {A : Type 0} (grid : Grid) (words : List (List ℕ)) (edit : Edit A) → SayEdit grid words edit → IsWritable edit
writable_said grid words (Split id path) h = (number_small h.parcel id h.is_parcel, h.are_places.has_one)
writable_said grid words (Merge a b) h = (number_small h.first a h.is_first, number_small h.second b h.is_second)
writable_said grid words (Move a b path) h =
    (number_small h.first a h.is_first, number_small h.second b h.is_second, h.are_places.has_one)
writable_said grid words (Insert from to at) h = tt
writable_said grid words (Straighten at) h = tt

-- ---- no byte of a word is a space or less
pub name_from : {A : Type 0} (edit : Edit A) → AreFrom 33 (name_of edit)
name_from (Split id path) = from_test 33 (codes "split") refl
name_from (Merge a b) = from_test 33 (codes "merge") refl
name_from (Move a b path) = from_test 33 (codes "move") refl
name_from (Insert from to at) = from_test 33 (codes "insert") refl
name_from (Straighten at) = from_test 33 (codes "straighten") refl

path_from : (corners : List Corner) → AllByRecursion (AreFrom 33) (path_words corners)
path_from [] = tt
path_from (corner ∷ corners) =
    (signed_from corner.x corner.x_in_range, (signed_from corner.y corner.y_in_range, path_from corners))

pub behind_from : {A : Type 0} (edit : Edit A) → IsWritable edit → AllByRecursion (AreFrom 33) (behind_name edit)
behind_from (Split id path) h = (number_from id h.0, path_from path)
behind_from (Merge a b) h = (number_from a h.0, (number_from b h.1, tt))
behind_from (Move a b path) h = (number_from a h.0, (number_from b h.1, path_from path))
behind_from (Insert from to at) h = path_from (from ∷ to ∷ at ∷ [])
behind_from (Straighten at) h = path_from (at ∷ [])
