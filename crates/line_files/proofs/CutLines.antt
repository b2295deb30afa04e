-- The line of an edit, cut from a text, and cut into words.
use Rattle.std.proofs.Common.{◌≡◌, ◌≢◌, ℕ, List, [], ◌∷◌, ◌++◌, ◌==◌, false, refl, ap, sym, ◌∙◌, subst, arith, append_assoc}
use Rattle.std.proofs.Common.{append-nil, codes, bytes_eq, ne_eqb, ◌≤◌}
use Rattle.std.specs.List.{AllByRecursion}
use Rattle.std.proofs.lemmas.Bool.{cond-false}
use Rattle.std.proofs.lemmas.List.Elements.{All-nil, All-cons, All-append, recursion_from_All}
use Rattle.ring_edits.specs.declared.edit.Edit.{Edit}
use Rattle.ring_edits.specs.declared.edit.Edit.TheVariants.{Split, Merge, Move, Insert, Straighten}
use Rattle.line_files.specs.ClerkFile.{SayEdit, SaysEdit, words_of}
use Rattle.line_files.specs.TextLines.{lines_of, IsSkipped}
use Rattle.line_files.specs.declared.grids.Grid.TheVariants.{Millimetres}
use Rattle.line_files.specs.own.Splitting.{without_return}
use Rattle.line_files.proofs.Splits.{first_of_more}
use Rattle.line_files.proofs.WordLists.{first_of_words, last_word}
use Rattle.line_files.specs.EditLine.{edit_text, edit_line, IsWritable}
use Rattle.line_files.proofs.Bytes.{AreFrom, lack_lesser, from_lesser}
use Rattle.line_files.proofs.EditWords.{name_of, behind_name, behind_spaces, text_is_words, words_say, name_from, behind_from}

-- ---- words
-- words with spaces between them are cut into these words
words_back : (word : List ℕ) (words : List (List ℕ)) → AreFrom 33 word → AllByRecursion (AreFrom 33) words
    → words_of (word ++ behind_spaces words) ≡ word ∷ words
words_back word [] h k = ap words_of (append-nil word) ∙ last_word word (lack_lesser 33 32 (omega arith) word h)
words_back word (next ∷ words) h k =
    first_of_words (word ++ behind_spaces (next ∷ words)) word (next ++ behind_spaces words)
    record { whole = refl; lacks = lack_lesser 33 32 (omega arith) word h }
    ∙ ap (λ rest. word ∷ rest) (words_back next words k.0 k.1)

pub says_line : {A : Type 0} (number : ℕ) (edit : Edit A) → IsWritable edit → SaysEdit Millimetres number (edit_text edit) (number, edit)
says_line number edit h =
    let cut : words_of (edit_text edit) ≡ name_of edit ∷ behind_name edit =
    ap words_of (text_is_words edit) ∙ words_back (name_of edit) (behind_name edit) (name_from edit) (behind_from edit h) in
    record { is_number = refl; is_edit = subst (λ words. SayEdit Millimetres words edit) (sym cut) (words_say edit h) }

-- ---- the line among lines
spaced_from : (words : List (List ℕ)) → AllByRecursion (AreFrom 33) words → AreFrom 32 (behind_spaces words)
spaced_from [] h = All-nil (λ b. 32 ≤ b)
spaced_from (word ∷ words) h = All-cons (λ b. 32 ≤ b) 32 (word ++ behind_spaces words) (omega arith)
    (All-append (λ b. 32 ≤ b) word (behind_spaces words) (from_lesser word h.0) (spaced_from words h.1))

text_from : {A : Type 0} (edit : Edit A) → IsWritable edit → AreFrom 32 (edit_text edit)
text_from edit h = subst (AreFrom 32) (sym (text_is_words edit))
    (All-append (λ b. 32 ≤ b) (name_of edit) (behind_spaces (behind_name edit)) (from_lesser (name_of edit) (name_from edit))
    (spaced_from (behind_name edit) (behind_from edit h)))

-- a line with no carriage return stays
no_return : (line : List ℕ) → AllByRecursion (λ b. b ≢ 13) line → without_return line ≡ line
no_return [] h = refl
no_return (b ∷ []) h = cond-false (b == 13) _ _ (ne_eqb b 13 h.0)
no_return (b ∷ c ∷ bs) h = ap (λ t. b ∷ t) (no_return (c ∷ bs) h.1)

pub line_cut : {A : Type 0} (edit : Edit A) (rest : List ℕ) → IsWritable edit
    → lines_of (edit_line edit ++ rest) ≡ edit_text edit ∷ lines_of rest
line_cut edit rest h =
    let from = text_from edit h in
    let stays : without_return (edit_text edit) ≡ edit_text edit =
    no_return (edit_text edit) (recursion_from_All (λ b. b ≢ 13) (edit_text edit)
    (lack_lesser 32 13 (omega arith) (edit_text edit) from)) in
    first_of_more (edit_line edit ++ rest) (edit_text edit) rest
    record { whole = append_assoc (edit_text edit) (codes "\n") rest; lacks = lack_lesser 32 10 (omega arith) (edit_text edit) from }
    ∙ ap (λ line. line ∷ lines_of rest) stays

-- ---- what the line is not
pub not_skipped : {A : Type 0} (edit : Edit A) → ¬ IsSkipped (edit_text edit)
not_skipped (Split id path) e = absurd (omega (arith, e))
not_skipped (Merge a b) e = absurd (omega (arith, e))
not_skipped (Move a b path) e = absurd (omega (arith, e))
not_skipped (Insert from to at) e = absurd (omega (arith, e))
not_skipped (Straighten at) e = absurd (omega (arith, e))

pub names_no_grid : {A : Type 0} (edit : Edit A) → bytes_eq (edit_text edit) (codes "grid cm") ≡ false
names_no_grid (Split id path) = refl
names_no_grid (Merge a b) = refl
names_no_grid (Move a b path) = refl
names_no_grid (Insert from to at) = refl
names_no_grid (Straighten at) = refl
