-- The lines of several edits, read back.
use Rattle.std.proofs.Common.{◌≡◌, inl, inr, ℕ, ◌+◌, List, [], ◌∷◌, ◌++◌, map, false, refl, ap, sym, ◌∙◌, subst, append-nil}
use Rattle.std.proofs.Common.{codes, bytes_eq}
use Rattle.std.specs.List.{All, AllByRecursion, enumerate_from}
use Rattle.std.proofs.lemmas.Bool.{cond-false}
use Rattle.std.proofs.lemmas.List.Concat.{flat_map-append}
use Rattle.std.proofs.lemmas.List.Elements.{All-from_recursion, recursion_from_All, All-map}
use Rattle.ring_edits.specs.declared.edit.Edit.{Edit}
use Rattle.line_files.specs.ClerkFile.{SaysEdit, IsClerkFile, words_of}
use Rattle.line_files.specs.Grids.{grid_of, behind_grid}
use Rattle.line_files.specs.TextLines.{lines_of, AreSaid}
use Rattle.line_files.specs.declared.grids.Grid.{Grid}
use Rattle.line_files.specs.declared.grids.Grid.TheVariants.{Millimetres, Centimetres}
use Rattle.line_files.proofs.ClerkWords.{edits_are_grammar}
use Rattle.line_files.proofs.Said.{IsGrammar}
use Rattle.line_files.specs.EditLine.{IsWritable, edit_text, edit_line, edit_lines, numbered}
use Rattle.line_files.proofs.EditWords.{writable_said}
use Rattle.line_files.proofs.CutLines.{says_line, line_cut, not_skipped, names_no_grid}

-- ---- each line says its edit
lines_say : {A : Type 0} (number : ℕ) (edits : List (Edit A)) → AllByRecursion IsWritable edits
    → AreSaid (SaysEdit Millimetres) number (lines_of (edit_lines edits)) (enumerate_from number edits)
lines_say number [] h = refl
lines_say {A} number (edit ∷ edits) h =
    subst (λ lines. AreSaid (SaysEdit {A = A} Millimetres) number lines (enumerate_from number (edit ∷ edits)))
    (sym (line_cut edit (edit_lines edits) h.0))
    (inr (
      (number, edit),
      enumerate_from (number + 1) edits,
      refl,
      not_skipped edit,
      says_line number edit h.0,
      lines_say (number + 1) edits h.1,
    ))

-- ---- the lines are in millimetres
-- the first line names no grid
record IsPlain (lines : List (List ℕ)) : Type 0 where
  pub grid : Millimetres ≡ grid_of lines
  pub same : lines ≡ behind_grid lines

plain_first : (line : List ℕ) (lines : List (List ℕ)) → bytes_eq line (codes "grid cm") ≡ false → IsPlain (line ∷ lines)
plain_first line lines e = record {
  grid = sym (cond-false (bytes_eq line (codes "grid cm")) Centimetres Millimetres e);
  same = ap (λ first. first ∷ lines) (sym (cond-false (bytes_eq line (codes "grid cm")) [] line e));
}

plain_lines : {A : Type 0} (edits : List (Edit A)) → AllByRecursion IsWritable edits → IsPlain (lines_of (edit_lines edits))
plain_lines [] h = record { grid = refl; same = refl }
plain_lines (edit ∷ edits) h = subst IsPlain (sym (line_cut edit (edit_lines edits) h.0))
    (plain_first (edit_text edit) (lines_of (edit_lines edits)) (names_no_grid edit))

on_grid : {A : Type 0} (lines : List (List ℕ)) (list : List (ℕ × Edit A)) → IsPlain lines → AreSaid (SaysEdit Millimetres) 1 lines list
    → AreSaid (SaysEdit (grid_of lines)) 1 (behind_grid lines) list
on_grid lines list p h = subst (λ grid. AreSaid (SaysEdit grid) 1 (behind_grid lines) list) p.grid
    (subst (λ all. AreSaid (SaysEdit Millimetres) 1 all list) p.same h)

-- ---- the laws
pub lines_are_clerk_file : {A : Type 0} (edits : List (Edit A)) → All IsWritable edits → IsClerkFile (edit_lines edits) (numbered edits)
lines_are_clerk_file edits h =
    let each = recursion_from_All IsWritable edits h in
    on_grid (lines_of (edit_lines edits)) (numbered edits) (plain_lines edits each) (lines_say 1 edits each)

-- lines say one list of things
one_list_said : {X : Type 0} (Says : ℕ → List ℕ → X → Type 0) → IsGrammar Says → (number : ℕ) (lines : List (List ℕ))
    (list other : List X) → AreSaid Says number lines list → AreSaid Says number lines other → list ≡ other
one_list_said Says grammar number [] list other h k = h ∙ sym k
one_list_said Says grammar number (line ∷ lines) list other h k = elim h [
  | inl p ↦ elim k [
    | inl q ↦ one_list_said Says grammar (number + 1) lines list other p.1 q.1
    | inr q ↦ absurd (q.3 p.0)
  ]
  | inr p ↦ elim k [
    | inl q ↦ absurd (p.3 q.0)
    | inr q ↦
        let firsts : p.0 ≡ q.0 = grammar.unique number line p.0 q.0 p.4 q.4 in
        let others : p.1 ≡ q.1 = one_list_said Says grammar (number + 1) lines p.1 q.1 p.5 q.5 in
        p.2 ∙ ap (λ x. x ∷ p.1) firsts ∙ ap (λ rest. q.0 ∷ rest) others ∙ sym q.2
  ]
]

pub lines_say_nothing_else : {A : Type 0} (edits : List (Edit A)) → All IsWritable edits → (list : List (ℕ × Edit A))
    → IsClerkFile (edit_lines edits) list → list ≡ numbered edits
lines_say_nothing_else edits h list k =
    let lines = lines_of (edit_lines edits) in
    one_list_said (SaysEdit (grid_of lines)) (edits_are_grammar (grid_of lines)) 1 (behind_grid lines) list (numbered edits) k
    (lines_are_clerk_file edits h)

pub lines_grow : {A : Type 0} (edits : List (Edit A)) (edit : Edit A) → edit_lines (edits ++ edit ∷ []) ≡ edit_lines edits ++ edit_line edit
lines_grow edits edit = flat_map-append edit_line edits (edit ∷ [])
    ∙ ap (λ text. edit_lines edits ++ text) (append-nil (edit_line edit))

without_numbers : {X : Type 0} (number : ℕ) (xs : List X) → map (λ said. said.1) (enumerate_from number xs) ≡ xs
without_numbers number [] = refl
without_numbers number (x ∷ xs) = ap (λ rest. x ∷ rest) (without_numbers (number + 1) xs)

pub entries_back : {A E : Type 0} (entries : List E) (edit_of : E → Edit A) → All (λ entry. IsWritable (edit_of entry)) entries
    → (list : List (ℕ × Edit A)) → IsClerkFile (edit_lines (map edit_of entries)) list
    → map (λ said. said.1) list ≡ map edit_of entries
entries_back entries edit_of h list k =
    ap (map (λ said. said.1)) (lines_say_nothing_else (map edit_of entries) (All-map IsWritable edit_of entries h) list k)
    ∙ without_numbers 1 (map edit_of entries)

-- ---- what is read can be written
said_writable : {A : Type 0} (grid : Grid) (number : ℕ) (lines : List (List ℕ)) (list : List (ℕ × Edit A))
    → AreSaid (SaysEdit grid) number lines list → AllByRecursion (λ said. IsWritable said.1) list
said_writable grid number [] list h = subst (AllByRecursion (λ said. IsWritable said.1)) (sym h) tt
said_writable grid number (line ∷ lines) list h = elim h [
  | inl p ↦ said_writable grid (number + 1) lines list p.1
  | inr p ↦ subst (AllByRecursion (λ said. IsWritable said.1)) (sym p.2)
      (writable_said grid (words_of line) p.0.1 p.4.is_edit, said_writable grid (number + 1) lines p.1 p.5)
]

pub read_writable : {A : Type 0} (text : List ℕ) (list : List (ℕ × Edit A)) → IsClerkFile text list
    → All (λ said. IsWritable said.1) list
read_writable text list h = All-from_recursion (λ said. IsWritable said.1) list
    (said_writable (grid_of (lines_of text)) 1 (behind_grid (lines_of text)) list h)
