-- A line asks for one thing: of which kind it is, its first word shows.
use Rattle.std.proofs.Common.{◌≡◌, ℕ, ◌==◌, List, [], ◌∷◌, ◌++◌, codes, length, refl, sym, ap, ◌∙◌, subst, arith, if◌then◌else◌}
use Rattle.std.specs.List.{onto_first}
use Rattle.geo_exact.specs.declared.corner.Corner.{Corner}
use Rattle.ring_edits.specs.declared.edit.Edit.{Edit as EditValue}
use Rattle.ring_edits.specs.declared.edit.Edit.TheVariants.{Split, Merge, Move, Insert, Straighten}
use Rattle.line_files.specs.TextLines.{IsSkipped}
use Rattle.line_files.specs.TextNumbers.{IsNumber, IsCornerText}
use Rattle.line_files.specs.ClerkFile.{words_of, SayEdit}
use Rattle.line_files.specs.declared.grids.Grid.TheVariants.{Millimetres}
use Rattle.line_files.proofs.ClerkWords.{one_edit}
use Rattle.line_files.proofs.Numerals.{one_number, one_corner}
use Rattle.session_lines.specs.declared.line.Line.{Line}
use Rattle.session_lines.specs.declared.line.Line.TheVariants.{Skipped, Edit, Locate, Parcel, Entries, Overlay, Check, Export, Publish}
use Rattle.session_lines.specs.declared.line.Line.TheVariants.{OverlayAreas, Close}
use Rattle.session_lines.specs.Lines.{IsLocateLine, IsParcelLine, IsExportLine, Asks, AskTheSame}

-- the kinds by numbers
abbrev kind_of : {A : Type 0} → Line A → ℕ
kind_of Skipped = 0
kind_of (Edit edit) = 1
kind_of (Locate corner) = 2
kind_of (Parcel id) = 3
kind_of Entries = 4
kind_of Overlay = 5
kind_of Check = 6
kind_of (Export base) = 7
kind_of Publish = 8
kind_of Close = 9
kind_of OverlayAreas = 10

abbrev first_of : List ℕ → ℕ
first_of [] = 0
first_of (b ∷ bs) = b

-- the kind of a line whose first word begins with this byte, and has these behind, and which has so many words more: `locate` (108),
-- `insert` (105), `merge` and `move` (109), `split` and `straighten` (115); of two kinds are `overlay` (111) alone and with a word
-- more, and of two kinds begin `parcel` (112, 97) and `publish`, `entries` (101, 110) and `export`, `check` (99, 104) and `close`
abbrev kind_by : ℕ → List ℕ → ℕ → ℕ
kind_by b bs more =
    if b == 108 then 2
    else (if b == 105 then 1
    else (if b == 109 then 1
    else (if b == 115 then 1
    else (if b == 111 then (if more == 0 then 5 else 10)
    else (if b == 112 then (if first_of bs == 97 then 3 else 8)
    else (if b == 101 then (if first_of bs == 110 then 4 else 7)
    else (if b == 99 then (if first_of bs == 104 then 6 else 9) else 0)))))))

abbrev kind_of_words : List (List ℕ) → ℕ
kind_of_words [] = 0
kind_of_words ([] ∷ words) = 0
kind_of_words ((b ∷ bs) ∷ words) = kind_by b bs (length words)

-- ---- a line's kind is that of what it asks for
comment_kind : (words : List (List ℕ)) → kind_of_words (onto_first 35 words) ≡ 0
comment_kind [] = refl
comment_kind (word ∷ words) = refl

skipped_kind : (line : List ℕ) → IsSkipped line → kind_of_words (words_of line) ≡ 0
skipped_kind [] h = refl
skipped_kind (b ∷ bs) h = subst (λ b. kind_of_words (words_of (b ∷ bs)) ≡ 0) (sym h) (comment_kind (words_of bs))

edit_kind : {A : Type 0} (words : List (List ℕ)) (edit : EditValue A) → SayEdit Millimetres words edit → kind_of_words words ≡ 1
edit_kind words (Split id path) h = ap kind_of_words h.are_words
edit_kind words (Merge a b) h = ap kind_of_words h.are_words
edit_kind words (Move a b path) h = ap kind_of_words h.are_words
edit_kind words (Insert from to at) h = ap kind_of_words h.are_words
edit_kind words (Straighten at) h = ap kind_of_words h.are_words

kind_asked : {A : Type 0} (line : List ℕ) (asked : Line A) → Asks line asked → kind_of_words (words_of line) ≡ kind_of asked
kind_asked line Skipped h = skipped_kind line h
kind_asked line (Edit edit) h = edit_kind (words_of line) edit h
kind_asked line (Locate corner) h = ap kind_of_words h.are_words
kind_asked line (Parcel id) h = ap kind_of_words h.are_words
kind_asked line Entries h = ap (λ line. kind_of_words (words_of line)) h
kind_asked line Overlay h = ap (λ line. kind_of_words (words_of line)) h
kind_asked line Check h = ap (λ line. kind_of_words (words_of line)) h
kind_asked line (Export base) h = ap (λ line. kind_of_words (words_of line)) h.is_line
kind_asked line Publish h = ap (λ line. kind_of_words (words_of line)) h
kind_asked line Close h = ap (λ line. kind_of_words (words_of line)) h
kind_asked line OverlayAreas h = ap (λ line. kind_of_words (words_of line)) h

one_kind : {A : Type 0} (line : List ℕ) (asked other : Line A) → Asks line asked → Asks line other → kind_of asked ≡ kind_of other
one_kind line asked other h k = sym (kind_asked line asked h) ∙ kind_asked line other k

-- ---- of one kind it asks for one thing
same_corner : (words : List (List ℕ)) (a b : Corner) → IsLocateLine words a → IsLocateLine words b → a ≡ b
same_corner words a b h k =
    let xs : k.x ≡ h.x = cc (h.are_words, k.are_words) in
    let ys : k.y ≡ h.y = cc (h.are_words, k.are_words) in
    one_corner h.x h.y a b h.is_corner
    (subst (λ x. IsCornerText Millimetres x h.y b) xs (subst (λ y. IsCornerText Millimetres k.x y b) ys k.is_corner))

same_parcel : (words : List (List ℕ)) (a b : ℕ) → IsParcelLine words a → IsParcelLine words b → a ≡ b
same_parcel words a b h k =
    let numbers : k.number ≡ h.number = cc (h.are_words, k.are_words) in
    one_number h.number a b h.is_number (subst (λ text. IsNumber text b) numbers k.is_number)

same_base : (line a b : List ℕ) → IsExportLine line a → IsExportLine line b → a ≡ b
same_base line a b h k = let same : codes "export " ++ a ≡ codes "export " ++ b = sym h.is_line ∙ k.is_line in cc

pub one_request : {A : Type 0} (line : List ℕ) (asked other : Line A) → Asks line asked → Asks line other → AskTheSame asked other
one_request line Skipped Skipped h k = refl
one_request line Skipped other h k = absurd (omega (arith, one_kind line Skipped other h k))
one_request line (Edit a) (Edit b) h k = ap Edit (one_edit Millimetres (words_of line) a b h k)
one_request line (Edit a) other h k = absurd (omega (arith, one_kind line (Edit a) other h k))
one_request line (Locate a) (Locate b) h k = ap Locate (same_corner (words_of line) a b h k)
one_request line (Locate a) other h k = absurd (omega (arith, one_kind line (Locate a) other h k))
one_request line (Parcel a) (Parcel b) h k = ap Parcel (same_parcel (words_of line) a b h k)
one_request line (Parcel a) other h k = absurd (omega (arith, one_kind line (Parcel a) other h k))
one_request line Entries Entries h k = refl
one_request line Entries other h k = absurd (omega (arith, one_kind line Entries other h k))
one_request line Overlay Overlay h k = refl
one_request line Overlay other h k = absurd (omega (arith, one_kind line Overlay other h k))
one_request line Check Check h k = refl
one_request line Check other h k = absurd (omega (arith, one_kind line Check other h k))
one_request line (Export a) (Export b) h k = same_base line a.now b.now h k
one_request line (Export a) other h k = absurd (omega (arith, one_kind line (Export a) other h k))
one_request line Publish Publish h k = refl
one_request line Publish other h k = absurd (omega (arith, one_kind line Publish other h k))
one_request line Close Close h k = refl
one_request line Close other h k = absurd (omega (arith, one_kind line Close other h k))
one_request line OverlayAreas OverlayAreas h k = refl
one_request line OverlayAreas other h k = absurd (omega (arith, one_kind line OverlayAreas other h k))
